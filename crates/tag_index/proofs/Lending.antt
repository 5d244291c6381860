-- Slices that a function holds, lent again for a call and come back, as one entailment for any number of them. It says nothing of this crate's code: a walk
-- cites `called`, and has no lifetime of its own.
--     Slice               what does not change of a `&mut [T]` that a function holds: element type, lifetime, share of its token, ghost name, place, count
--     Owned, InHand       what the slice owns at a list, for a lifetime and under a name; the same for its holder, with his token
--     Opened, Again       the holder's borrow while it is open; what he keeps while the slice is lent again
--     opens, closes       a slice in hand is what lies in memory and the open borrow, and the other way round
--     lends, returns      a slice in hand is lent again for a lifetime ν; it comes back at another list of its length once ν is over
--     ListsOf, Loans, Long, Rooms     for each slice: a list; the lifetime and the name of a loan; that the list has its count; that the count has room
--     Hands               the slices in hand, at lists
--     Toks, Owns, Kept, Finals        for each loan: the token of its lifetime; what the callee is handed; what the holder keeps; the last list
--     called              from a callee's contract: slices in hand give, after an update, the call, and then they are in hand at lists that its fact is of
-- Assumes `Logic`, and that the table of calls is monotone under a frame.
use mathlib.Core.Path.{◌≡◌, sym, ◌∙◌, ap, subst}
use Prim.Native.Nat.{ℕ}
use mathlib.Core.List.{List, [], ◌∷◌}
use lib.ListN.{length}
use seplogic.Ra.Ura.{Ura}
use base.Fraction.{full_share}
use mir.Syntax.{Lifetime, Callee}
use mir.Val.{Val}
use base.Logic.{SProp, ent, sep, ex, via, mono_l, assoc'}
use base.Fml.{Lft, GName, Share, Fml, ftrue, fsep, flft, fdead, fobs, fauth, flent, fobor}
use prog.Wp.{Calls}
use types.Logic.{Logic, sem}
use sound.WpLaws.{FmC}
use types.Kit.{Item, ‵, raw, ◌⊛◌, some, given, later, mean, ◌$◌, ◌∵◌, !, qed, by, move, use1, use2, use3, split, join, fsplit, fjoin, pick, learn, drop, frame, await, updating, now as at_once, show, check, done}
use types.SemTy.{cells, Arr}
use types.Tokens.{lft_new, lft_end}
use denote.RattleType.{RattleType}
use denote.Shadow.{pure_l, pure_i}
use denote.Memory.{mem}
use denote.Ref.{MutBor}
use denote.Slice.{slice_val, MutSlice, Room, finally, heres, mut_slice_at, coded_holeys}
use denote.Lend.{Held, lends_slice, slice_back}
use denote.Index.{row, whole_out, whole_in, opens_slice, closes_slice}
use denote.Steps.{nothing}
use denote.Triple.Statement.{Contract, Triple}

pub record Slice : Type 2 where
  pub R : RattleType
  pub ℓ : Lifetime
  pub κ : Lft
  pub q : Share
  pub γ : GName
  pub b : ℕ
  pub o : ℕ
  pub n : ℕ

-- ---- one slice

abbrev pub Lists : Slice → Type 0
Lists S = List S.R.Denot

-- The reference at a list under a name, and its machine value.
abbrev pub ref : (S : Slice) → GName → Lists S → MutBor (Lists S)
ref S δ ys = record { ref_ptr = (S.b, S.o); ghost_name = δ; now = ys }

abbrev pub val : Slice → Val
val S = slice_val (S.b, S.o) S.n

abbrev pub Owned : (S : Slice) → Lft → GName → Lists S → Fml
Owned S κ δ ys = (MutSlice S.ℓ κ S.R).own_val (ref S δ ys) (val S ∷ [])

-- What a borrow of as many elements as ys holds.
abbrev Body : (S : Slice) → Lists S → GName → Fml
Body S ys δ = Held S.R (length ys) S.b S.o δ

abbrev Opened : (S : Slice) → Lists S → Fml
Opened S ys = fsep (fobor S.κ S.q (Body S ys S.γ)) (fsep (fobs S.γ ((coded_holeys S.R).code (heres S.R ys))) (fauth S.γ ((coded_holeys S.R).code (heres S.R ys))))

abbrev pub Again : (S : Slice) → ℕ → GName → Lists S → Fml
Again S ν δ ys = fsep (flent (ν ∷ []) (Body S ys δ)) (Opened S ys)

-- Its elements in memory.
abbrev Lies : (S : Slice) → Lists S → Fml
Lies S ys = cells (mem S.R) ys S.b S.o

-- A list of the slice's count says what the slice's value says.
at_count : (S : Slice) (ys : Lists S) → length ys ≡ S.n → val S ∷ [] ≡ slice_val (S.b, S.o) (length ys) ∷ []
at_count S ys e = ap (λ (m : ℕ). slice_val (S.b, S.o) m ∷ []) (sym e)

module _ {M : Type 1} (𝓤 : Ura M) where
  abbrev pub InHand : (S : Slice) → Lists S → Item 𝓤
  InHand S ys = ‵ (Owned S S.κ S.γ ys) ⊛ ‵ (flft S.κ S.q)

module _ {M : Type 1} {𝓤 : Ura M} (𝓛 : Logic 𝓤) (S : Slice) where
  abbrev ⟦◌⟧ : Item 𝓤 → SProp 𝓤
  ⟦ X ⟧ = mean 𝓛 X

  abbrev OpenAt : Lists S → Item 𝓤
  OpenAt ys = later (given (Room S.R (length ys)) (‵ (Lies S ys) ⊛ ‵ (Opened S ys)))

  opens : (ys : Lists S) → ent 𝓤 ⟦ InHand 𝓤 S ys ⟧ ⟦ OpenAt ys ⟧
  opens ys =
      qed 𝓛 (InHand 𝓤 S ys ∷ []) ∵ updating ! $ split ! $ fsplit ! $ pure_l ! (mut_slice_at S.R (ref S S.γ ys) (val S ∷ [])) (λ says. fsplit ! $ opens_slice ! tt S.R ys S.b S.o $
      use1 𝓛 (‵ (Lies S ys)) (whole_in 𝓛 S.R ys S.b S.o) $
      -- [the elements; the open borrow; the two halves of the ghost variable]
      at_once ! $ check ! says.1 $ frame ! $ move ! (1 ∷ 2 ∷ []) $ fjoin ! $ move ! (1 ∷ 0 ∷ []) $ fjoin ! $ done !)

  closes : (ys zs : Lists S) → length zs ≡ length ys → length zs ≡ S.n → Room S.R (length zs) → ent 𝓤 ⟦ ‵ (Lies S zs) ⊛ ‵ (Opened S ys) ⟧ ⟦ later (InHand 𝓤 S zs) ⟧
  closes ys zs same long room =
      qed 𝓛 (‵ (Lies S zs) ∷ ‵ (Opened S ys) ∷ []) ∵ updating ! $ use1 𝓛 (‵ (row S.R full_share zs S.b S.o)) (whole_out 𝓛 S.R zs S.b S.o) $
      move ! (1 ∷ []) $ fsplit ! $ move ! (1 ∷ []) $ fsplit ! $
      -- [the two halves of the ghost variable; the open borrow; the elements]
      move ! (3 ∷ 2 ∷ 0 ∷ 1 ∷ []) $ closes_slice ! tt S.R ys zs same S.b S.o $
      fjoin ! $ pure_i ! (mut_slice_at S.R (ref S S.γ zs) (val S ∷ [])) (tt, (tt, tt)) (at_count S zs long, room) $ fjoin ! $ at_once ! $ frame ! $ done !

  abbrev LentAt : Lists S → ℕ → GName → Item 𝓤
  LentAt ys ν δ = ‵ (Owned S (ν ∷ []) δ ys) ⊛ ‵ (Again S ν δ ys)

  lends : (ys : Lists S) → length ys ≡ S.n → (ν : ℕ) → ent 𝓤 ⟦ InHand 𝓤 S ys ⟧ ⟦ later (some (λ (δ : GName). LentAt ys ν δ)) ⟧
  lends ys long ν =
      qed 𝓛 (InHand 𝓤 S ys ∷ []) ∵ updating ! $ use1 𝓛 (OpenAt ys) (opens ys) $ await ! tt $ learn ! (λ room. split ! $
      use1 𝓛 (later (some (λ (δ : GName). ‵ ((MutSlice S.ℓ (ν ∷ []) S.R).own_val (ref S δ ys) (slice_val (S.b, S.o) (length ys) ∷ [])) ⊛ ‵ (flent (ν ∷ []) (Body S ys δ)))))
      (lends_slice 𝓛 S.R S.ℓ (ν ∷ []) ys S.b S.o room) $ await ! tt $ pick ! (λ δ. split ! $ fsplit ! $ drop ! $
      -- [what the new slice holds; the lender's part; the open borrow]
      pure_i ! (mut_slice_at S.R (ref S δ ys) (val S ∷ [])) (tt, (tt, tt)) (at_count S ys long, room) $ fjoin ! $ at_once ! $ show ! (λ (δ' : GName). ⟦ LentAt ys ν δ' ⟧) δ $ frame ! $ fjoin ! $ done !))

  returns : (ys : Lists S) → length ys ≡ S.n → Room S.R S.n → (ν : ℕ) (δ : GName) (zs : Lists S) → length zs ≡ S.n
      → ent 𝓤 ⟦ ‵ (fdead (ν ∷ [])) ⊛ (‵ (Again S ν δ ys) ⊛ ‵ (finally S.R δ zs)) ⟧ ⟦ later (InHand 𝓤 S zs) ⟧
  returns ys long room ν δ zs long' =
      qed 𝓛 (‵ (fdead (ν ∷ [])) ∷ ‵ (Again S ν δ ys) ∷ ‵ (finally S.R δ zs) ∷ []) ∵ updating ! $ move ! (1 ∷ []) $ fsplit ! $
      -- [the lender's part; the open borrow; that ν is over; the last list]
      move ! (2 ∷ 0 ∷ 3 ∷ []) $ use3 𝓛 (later (‵ ((Arr (mem S.R) (length ys)).own_at zs S.b S.o))) (slice_back 𝓛 S.R (ν ∷ []) δ zs (length ys) S.b S.o) $ await ! tt $
      fsplit ! $ drop ! $ use2 𝓛 (later (InHand 𝓤 S zs)) (closes ys zs (long' ∙ sym long) long' (subst (Room S.R) (sym long') room)) $ await ! tt $ at_once ! $ done !

-- ---- any number of slices
abbrev pub ListsOf : List Slice → Type 0
ListsOf [] = Unit {0}
ListsOf (S ∷ Ss) = Lists S × ListsOf Ss

abbrev pub Loans : List Slice → Type 0
Loans [] = Unit {0}
Loans (S ∷ Ss) = (ℕ × GName) × Loans Ss

abbrev pub Long : (Ss : List Slice) → ListsOf Ss → Type 0
Long [] ls = Unit {0}
Long (S ∷ Ss) ls = (length ls.0 ≡ S.n) × Long Ss ls.1

abbrev pub Rooms : List Slice → Type 0
Rooms [] = Unit {0}
Rooms (S ∷ Ss) = Room S.R S.n × Rooms Ss

module _ {M : Type 1} (𝓤 : Ura M) where
  abbrev pub Hands : (Ss : List Slice) → ListsOf Ss → Item 𝓤
  Hands [] ls = ‵ ftrue
  Hands (S ∷ Ss) ls = InHand 𝓤 S ls.0 ⊛ Hands Ss ls.1

  abbrev pub Toks : (Ss : List Slice) → Loans Ss → Item 𝓤
  Toks [] d = ‵ ftrue
  Toks (S ∷ Ss) d = ‵ (flft (d.0.0 ∷ []) full_share) ⊛ Toks Ss d.1

  abbrev pub Owns : (Ss : List Slice) → Loans Ss → ListsOf Ss → Item 𝓤
  Owns [] d ls = ‵ ftrue
  Owns (S ∷ Ss) d ls = ‵ (Owned S (d.0.0 ∷ []) d.0.1 ls.0) ⊛ Owns Ss d.1 ls.1

  abbrev pub Kept : (Ss : List Slice) → Loans Ss → ListsOf Ss → Item 𝓤
  Kept [] d ls = ‵ ftrue
  Kept (S ∷ Ss) d ls = ‵ (Again S d.0.0 d.0.1 ls.0) ⊛ Kept Ss d.1 ls.1

  abbrev pub Finals : (Ss : List Slice) → Loans Ss → ListsOf Ss → Item 𝓤
  Finals [] d ls = ‵ ftrue
  Finals (S ∷ Ss) d ls = ‵ (finally S.R d.0.1 ls.0) ⊛ Finals Ss d.1 ls.1

  -- what a call that answers with an x of X hands back, and what its caller has of that
  module _ (Ss : List Slice) (X : Type 0) (Result : X → Val → Fml) (Says : X → ListsOf Ss → Type 0) where
    abbrev pub Given-at : Loans Ss → Val → X → ListsOf Ss → Item 𝓤
    Given-at d w r zs = given (Says r zs × Long Ss zs) (Toks Ss d ⊛ (Finals Ss d zs ⊛ ‵ (Result r w)))

    abbrev pub Given-back : Loans Ss → Val → Item 𝓤
    Given-back d w = later (some (λ (r : X). some (λ (zs : ListsOf Ss). Given-at d w r zs)))

    abbrev pub Held-at : Val → X → ListsOf Ss → Item 𝓤
    Held-at w r zs = given (Says r zs × Long Ss zs) (Hands Ss zs ⊛ ‵ (Result r w))

    abbrev pub After : Val → Item 𝓤
    After w = later (some (λ (r : X). some (λ (zs : ListsOf Ss). Held-at w r zs)))

module _ {M : Type 1} {𝓤 : Ura M} (𝓛 : Logic 𝓤) where
  open 𝓛 use {H}

  abbrev Lent-at : (Ss : List Slice) → ListsOf Ss → Loans Ss → SProp 𝓤
  Lent-at Ss ls d = sep 𝓤 (mean 𝓛 (Toks 𝓤 Ss d)) (sep 𝓤 (mean 𝓛 (Owns 𝓤 Ss d ls)) (mean 𝓛 (Kept 𝓤 Ss d ls)))

  lend_all : (Ss : List Slice) (ls : ListsOf Ss) → Long Ss ls → ent 𝓤 (mean 𝓛 (Hands 𝓤 Ss ls)) (H.⇛ (ex 𝓤 (λ (d : Loans Ss). Lent-at Ss ls d)))
  lend_all [] ls long = qed 𝓛 (‵ ftrue ∷ []) ∵ updating ! $ at_once ! $ show ! (λ (d : Loans []). Lent-at [] ls d) tt $ nothing ! $ nothing ! $ done !
  lend_all (S ∷ Ss) ls long =
      qed 𝓛 (Hands 𝓤 (S ∷ Ss) ls ∷ []) ∵ updating ! $ split ! $ split ! $
      lft_new ! tt (λ ν. move ! (1 ∷ 2 ∷ []) $ use2 𝓛 (later (some (λ (δ : GName). ‵ (Owned S (ν ∷ []) δ ls.0) ⊛ ‵ (Again S ν δ ls.0)))) (lends 𝓛 S ls.0 long.0 ν) $ await ! tt $ pick ! (λ δ. split ! $
      -- [own; kept; ν; the other slices in hand]
      move ! (3 ∷ []) $ use1 𝓛 (later (some (λ (d : Loans Ss). Toks 𝓤 Ss d ⊛ (Owns 𝓤 Ss d ls.1 ⊛ Kept 𝓤 Ss d ls.1)))) (lend_all Ss ls.1 long.1) $ await ! tt $ pick ! (λ d. split ! $ move ! (1 ∷ []) $ split ! $
      -- [their owns; their kept; their tokens; own; kept; ν]
      at_once ! $ show ! (λ (e : Loans (S ∷ Ss)). Lent-at (S ∷ Ss) ls e) ((ν, δ), d) $
      move ! (5 ∷ 2 ∷ []) $ join ! $ frame ! $ move ! (2 ∷ 0 ∷ []) $ join ! $ frame ! $ move ! (1 ∷ 0 ∷ []) $ done !)))

  back_all : (Ss : List Slice) (ls : ListsOf Ss) → Long Ss ls → Rooms Ss → (d : Loans Ss) (zs : ListsOf Ss) → Long Ss zs
      → ent 𝓤 (sep 𝓤 (mean 𝓛 (Toks 𝓤 Ss d)) (sep 𝓤 (mean 𝓛 (Finals 𝓤 Ss d zs)) (mean 𝓛 (Kept 𝓤 Ss d ls)))) (H.⇛ (mean 𝓛 (Hands 𝓤 Ss zs)))
  back_all [] ls long rooms d zs long' = qed 𝓛 (‵ ftrue ∷ ‵ ftrue ∷ ‵ ftrue ∷ []) ∵ updating ! $ at_once ! $ by ! (triv)
    where
      triv : ent 𝓤 (sep 𝓤 (sem 𝓛 ftrue) (sep 𝓤 (sem 𝓛 ftrue) (sem 𝓛 ftrue))) (sem 𝓛 ftrue)
      triv = qed 𝓛 (‵ ftrue ∷ ‵ ftrue ∷ ‵ ftrue ∷ []) ∵ drop ! $ drop ! $ done !
  back_all (S ∷ Ss) ls long rooms d zs long' =
      qed 𝓛 (Toks 𝓤 (S ∷ Ss) d ∷ Finals 𝓤 (S ∷ Ss) d zs ∷ Kept 𝓤 (S ∷ Ss) d ls ∷ []) ∵ updating ! $ split ! $ lft_end ! tt $ move ! (2 ∷ []) $ split ! $ move ! (4 ∷ []) $ split ! $
      -- [kept; their kept; last; their last; dead; their tokens]
      move ! (4 ∷ 0 ∷ 2 ∷ []) $ use3 𝓛 (later (InHand 𝓤 S zs.0)) (returns 𝓛 S ls.0 long.0 rooms.0 d.0.0 d.0.1 zs.0 long'.0) $ await ! tt $
      -- [hand; their kept; their last; their tokens]
      move ! (3 ∷ 2 ∷ 1 ∷ []) $ use3 𝓛 (later (Hands 𝓤 Ss zs.1)) (back_all Ss ls.1 long.1 rooms.1 d.1 zs.1 long'.1) $ await ! tt $
      at_once ! $ move ! (1 ∷ 0 ∷ []) $ done !

module _ {M : Type 1} {𝓤 : Ura M} (𝓛 : Logic 𝓤) (Ss : List Slice) (C : Calls 𝓤 𝓛.H) (fm : FmC 𝓤 𝓛.H 𝓛.laws C) (f : Callee) (c : Contract 𝓤) (known : Triple 𝓤 (C f) c) (vs : List Val)
    (to : Loans Ss → c.Ghost) (args : (d : Loans Ss) → c.args (to d) ≡ vs) (X : Type 0) (Result : X → Val → Fml) (Says : X → ListsOf Ss → Type 0) (ls : ListsOf Ss) (long : Long Ss ls) (rooms : Rooms Ss)
    (goes : (d : Loans Ss) → ent 𝓤 (sep 𝓤 (mean 𝓛 (Toks 𝓤 Ss d)) (mean 𝓛 (Owns 𝓤 Ss d ls))) (c.pre (to d)))
    (gives : (d : Loans Ss) (w : Val) → ent 𝓤 (c.post (to d) w) (mean 𝓛 (Given-back 𝓤 Ss X Result Says d w))) where
  open 𝓛 use {H}

  abbrev Q : Val → SProp 𝓤
  Q w = mean 𝓛 (After 𝓤 Ss X Result Says w)

  back : (d : Loans Ss) (w : Val) → ent 𝓤 (sep 𝓤 (c.post (to d) w) (mean 𝓛 (Kept 𝓤 Ss d ls))) (Q w)
  back d w =
      qed 𝓛 (raw (c.post (to d) w) ∷ Kept 𝓤 Ss d ls ∷ []) ∵ updating ! $ use1 𝓛 (Given-back 𝓤 Ss X Result Says d w) (gives d w) $ await ! tt $ pick ! (λ r. pick ! (λ zs. learn ! (λ h.
      split ! $ move ! (1 ∷ []) $ split ! $
      -- [last; the result; tokens; kept]
      move ! (2 ∷ 0 ∷ 3 ∷ []) $ use3 𝓛 (later (Hands 𝓤 Ss zs)) (back_all 𝓛 Ss ls long rooms d zs h.1) $ await ! tt $
      at_once ! $ show ! (λ (r' : X). ex 𝓤 (λ (zs' : ListsOf Ss). mean 𝓛 (Held-at 𝓤 Ss X Result Says w r' zs'))) r $ show ! (λ (zs' : ListsOf Ss). mean 𝓛 (Held-at 𝓤 Ss X Result Says w r zs')) zs $ check ! h $ done !)))

  ran : (d : Loans Ss) → ent 𝓤 (sep 𝓤 (mean 𝓛 (Toks 𝓤 Ss d)) (sep 𝓤 (mean 𝓛 (Owns 𝓤 Ss d ls)) (mean 𝓛 (Kept 𝓤 Ss d ls)))) (C f vs Q)
  ran d =
      via 𝓤 (sep 𝓤 (sep 𝓤 (mean 𝓛 (Toks 𝓤 Ss d)) (mean 𝓛 (Owns 𝓤 Ss d ls))) (mean 𝓛 (Kept 𝓤 Ss d ls))) (assoc' 𝓤 (mean 𝓛 (Toks 𝓤 Ss d)) (mean 𝓛 (Owns 𝓤 Ss d ls)) (mean 𝓛 (Kept 𝓤 Ss d ls)))
      (via 𝓤 (sep 𝓤 (C f vs (c.post (to d))) (mean 𝓛 (Kept 𝓤 Ss d ls)))
      (mono_l 𝓤 (mean 𝓛 (Kept 𝓤 Ss d ls)) (via 𝓤 (c.pre (to d)) (goes d) (subst (λ (us : List Val). ent 𝓤 (c.pre (to d)) (C f us (c.post (to d)))) (args d) (known (to d)))))
      (fm f vs (c.post (to d)) Q (mean 𝓛 (Kept 𝓤 Ss d ls)) (back d)))

  pub called : ent 𝓤 (mean 𝓛 (Hands 𝓤 Ss ls)) (H.⇛ (C f vs Q))
  called =
      qed 𝓛 (Hands 𝓤 Ss ls ∷ []) ∵ updating ! $ use1 𝓛 (later (some (λ (d : Loans Ss). Toks 𝓤 Ss d ⊛ (Owns 𝓤 Ss d ls ⊛ Kept 𝓤 Ss d ls)))) (lend_all 𝓛 Ss ls long) $ await ! tt $ pick ! (λ d. at_once ! $ by ! (ran d))
