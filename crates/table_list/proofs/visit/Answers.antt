-- A visit's cases are the code's returns. Assumes nothing.
use native.Mathlib.Omega.{arith}
use Rattle.index_table.proofs.Pointers.{dummy_pointer, live_pointer}
use Rattle.table_list.proofs.VisitSteps.{visited_dummy, visited_below, visited_ended, visited_full, visited_written}
use Rattle.table_list.proofs.visit.Goals as goal

pub returns-in_default : goal.returns-in_default
returns-in_default c =
    visited_dummy _ _ _ _ _ _ c.requires (dummy_pointer _ _ c.answer_of.ensures c.in_default.is)

pub returns-then-key-a : goal.returns-then-key-a
returns-then-key-a c =
    visited_below _ _ _ _ _ _ c.requires _ (live_pointer _ _ _ c.answer_of.ensures c.in-Live.is) (omega arith)

pub returns-then-key-b : goal.returns-then-key-b
returns-then-key-b c =
    visited_ended _ _ _ _ _ _ c.requires _ (live_pointer _ _ _ c.answer_of.ensures c.in-Live.is) (omega arith) (omega arith)

pub returns-then-written-out : goal.returns-then-written-out
returns-then-written-out c =
    visited_full _ _ _ _ _ _ c.requires _ (live_pointer _ _ _ c.answer_of.ensures c.in-Live.is) (omega arith) (omega arith) (omega arith)

pub returns : goal.returns
returns c =
    visited_written _ _ _ _ _ _ c.requires _ (live_pointer _ _ _ c.answer_of.ensures c.in-Live.is) (omega arith) (omega arith) (omega arith)
