-- The page alone, the entry alone, or from the root down. Assumes nothing.
use borrow.Author.Rules.{rules}
use mathlib.Core.Path.{◌∙◌}
use Rattle.tree_merge.proofs.MergeLaws.{covered_all}
use Rattle.table_delete.proofs.TakingAt.{take_near, near_quiet, near_within, near_finish, near_calm, take_blank, quiet_finish, quiet_taken, far_pre, far_post}
use Rattle.table_delete.proofs.take_out_at.Goals as goal

pub strike_near-requires : goal.strike_near-requires
strike_near-requires c =
    take_near _ c.requires (search rules)

pub lowest_level-lowest-requires : goal.lowest_level-lowest-requires
lowest_level-lowest-requires c =
    near_within _ c.requires (search rules) (c.strike_near.ensures.done c.if-strike_near.true)

pub returns-then-level-lowest : goal.returns-then-level-lowest
returns-then-level-lowest c =
    near_calm _ c.requires (search rules) (c.strike_near.ensures.done c.if-strike_near.true) c.lowest_level-lowest.ensures c.if-level-lowest.true

pub finish-requires : goal.finish-requires
finish-requires c =
    near_finish _ c.requires (search rules) (c.strike_near.ensures.done c.if-strike_near.true) c.lowest_level-lowest.ensures

pub returns-then-strike_near : goal.returns-then-strike_near
returns-then-strike_near c =
    let pre = c.requires in
    quiet_taken _ pre.take pre.begins _ (near_quiet _ pre (search rules) _ (c.strike_near.ensures.done c.if-strike_near.true)) _ _ c.finish.ensures

pub blank-requires : goal.blank-requires
blank-requires c =
    take_blank _ (far_pre (c.strike_near.ensures.none c.if-strike_near.false) c.requires.take) (search rules) c.next_position-position.ensures

pub finish-requires-then-blank : goal.finish-requires-then-blank
finish-requires-then-blank c =
    let same = c.strike_near.ensures.none c.if-strike_near.false in
    quiet_finish _ (far_pre same c.requires.take) c.next_position-position.ensures _ (c.blank.ensures.done c.if-blank.true) _ covered_all

pub returns-then-blank : goal.returns-then-blank
returns-then-blank c =
    let same = c.strike_near.ensures.none c.if-strike_near.false in
    far_post same (quiet_taken _ (far_pre same c.requires.take) c.next_position-position.ensures _ (c.blank.ensures.done c.if-blank.true) _ _ c.finish-then-blank.ensures)

pub take_out-requires : goal.take_out-requires
take_out-requires c =
    far_pre (c.blank.ensures.none c.if-blank.false ∙ c.strike_near.ensures.none c.if-strike_near.false) c.requires.take

pub returns : goal.returns
returns c =
    far_post (c.blank.ensures.none c.if-blank.false ∙ c.strike_near.ensures.none c.if-strike_near.false) c.take_out.ensures
