-- What the contract of `tag_index_load` says, as a type, as it is generated (`Reads`) for the other calls: read off the function's own clause.
--     ensures_read     a reading of the contract's own `ensures`, by the rule for a clause that is one fact. It is not told which fact that is
--     Post             what whoever has the contract learns from it
-- So whoever cites `Post` cites the clause as the source states it: where the clause changes, so does `Post`. Assumes nothing.
use mathlib.Core.Path.{refl}
use base.Logic.{emp}
use contract.Lifetimes.{Lfts}
use borrow.Fn.Claims.{AllOf}
use borrow.Fn.Read.{Read, r_last, all_models, no_know}
use borrow.Fn.World.{ArgsD, ResD}
use denote.Triple.Clauses.{AtExit}
use Rattle.tag_index.specs.contracts.c.tag_index_load as loaded

module _ (κs : Lfts 5) (a : ArgsD loaded.signature κs) (r : ResD loaded.signature κs) (s : AtExit loaded.ended κs) where
  abbrev ensures_read : Read (λ w. emp w.𝓤) no_know (λ w. (loaded.clauses w.𝓛 w.𝓜.mem w.𝓡.run κs a).ensures tt r s)
  ensures_read =
      all_models (λ w. (loaded.clauses w.𝓛 w.𝓜.mem w.𝓡.run κs a).ensures tt r s) (λ w. r_last _) (λ w. refl) (λ w. refl) (λ w. refl)

  abbrev pub Post : Type 0
  Post = AllOf ensures_read.tells
