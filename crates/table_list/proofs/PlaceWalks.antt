-- From the place of the lower end on: the entry that covers it, then those to its right. Assumes nothing.
use mathlib.Core.Path.{◌≡◌, refl, sym, ap, subst, ◌∙◌}
use mathlib.Core.List.{List, [], ◌∷◌, ◌++◌, map, foldl-append}
use Prim.Native.Nat.{ℕ, zero, suc, ◌+◌, ◌-◌}
use native.Mathlib.Omega.{arith}
use native.Mathlib.Numerals.{add-one}
use lib.ListN.{get_or}
use lib.Seq.{drop-cons}
use Rattle.leaf_list.specs.Entries.{pointer_of}
use Rattle.page_tree.specs.Rows.{All, flats}
use Rattle.page_tree.specs.Tree.{Node, leaves}
use Rattle.index_table.specs.Layout.{Ref, layout_of, page_bytes, ref_at}
use Rattle.index_table.specs.Pages.{pages_at, node_at}
use Rattle.table_search.specs.declared.Spot.{Spot}
use Rattle.table_search.specs.Places.{left_from, Stopped}
use Rattle.table_search.proofs.Descents.{leaves_at, descend_walk, descend_down}
use Rattle.std.specs.declared.ops.ControlFlow.TheVariants.{Break}
use Rattle.table_find.specs.declared.answer.Counted.{Counted}
use Rattle.table_list.specs.Listings.{State, begun, visited, visit_all, leaves_from, leaves_right, Inside, RowPre, RowListed, FromPre, FromListed}
use Rattle.table_list.proofs.RowWalks.{pointer_read, row_over}

-- A page that covers the place is a page whose entries can be walked.
pub from_row : {index keys : List ℕ} {e n page w a position : ℕ} → FromPre index keys e n page w a position → RowPre index keys e n page
unfolding node_at
from_row pre = record { P = pre.P; closing = pre.place.closing; sound = pre.place.sound; table = pre.place.table; inside = pre.inside }

-- From the place on below a page: from it on below the entry found, then all to its right.
place_parted : {index keys : List ℕ} {e n page w a position trail : ℕ} (pre : FromPre index keys e n page w a position) (s : Spot)
    → Stopped w a position trail (pages_at (layout_of e) index page) s
    → leaves_from (suc n) (left_from w a position) trail (node_at 65535 (suc n) (pages_at (layout_of e) index) (0, page))
    ≡ leaves_from n (left_from w a s.position) s.trail (node_at 65535 n (pages_at (layout_of e) index) (get_or (pages_at (layout_of e) index page) s.at (0, 0)))
    ++ leaves_right index e n page (suc s.at)
unfolding node_at
place_parted {n = n} pre s stop = descend_walk pre.place s stop (λ bs τ x xs. leaves_from n bs τ x ++ flats (leaves n) xs) []

-- On level 0 the entry found is the first that is visited.
pub from_leaf : {index keys : List ℕ} {e page w a position trail b : ℕ} (level : ℕ) → level ≡ 0 → (pre : FromPre index keys e level page w a position) (s : Spot)
    → Stopped w a position trail (pages_at (layout_of e) index page) s → (out : List ℕ) (r : State) → RowListed index keys e level page s.at a b (out, begun) r
    → FromListed index keys e level page w a b position trail out r
from_leaf (suc n) h pre s stop out r d = absurd (omega arith)
from_leaf {index} {keys} {e} {page} {w} {a} {position} {trail} {b} zero h pre s stop out r d =
    record { walked = d.walked ∙ ap (visit_all keys a b (out, begun)) (front ∙ sym (place_parted pre s stop)) }
  where
    front : leaves_right index e 0 page s.at
        ≡ node_at 65535 0 (pages_at (layout_of e) index) (get_or (pages_at (layout_of e) index page) s.at (0, 0)) ∷ leaves_right index e 0 page (suc s.at)
    front = ap (λ (l : List Ref). flats (leaves 0) (map (node_at 65535 0 (pages_at (layout_of e) index)) l)) (drop-cons (pages_at (layout_of e) index page) s.at (0, 0) stop.inside)

-- Above it, the child covers the place,
pub from_below : {index keys : List ℕ} {e page w a position trail : ℕ} (level : ℕ) → (level ≡ 0 → ⊥) → (pre : FromPre index keys e level page w a position) (s : Spot)
    → Stopped w a position trail (pages_at (layout_of e) index page) s → (below : ℕ) → below ≡ (ref_at (layout_of e) (page_bytes (layout_of e) index page) s.at).1
    → FromPre index keys e (level - 1) below w a s.position
unfolding node_at
from_below zero k pre s stop below q = absurd (k refl)
from_below {index} {keys} {e} {page} {w} {a} (suc n) k pre s stop below q =
    record { P = pre.P; place = descend_down (suc n) k pre.place s stop below q; inside = subst (λ (m : ℕ). Leaves m) lower inside_child }
  where
    Leaves : ℕ → Type 0
    Leaves m = All (λ x. Inside keys (pointer_of x)) (leaves (suc m) (node_at 65535 (suc m) (pages_at (layout_of e) index) (0, below)))

    lower : n ≡ suc n - 1
    lower = omega arith

    inside_child : Leaves n
    inside_child =
        subst (λ (p : ℕ). All (λ x. Inside keys (pointer_of x)) (leaves (suc n) (node_at 65535 (suc n) (pages_at (layout_of e) index) (0, p)))) (sym (pointer_read (layout_of e) index page s.at below q stop.inside))
        (leaves_at (λ x. Inside keys (pointer_of x)) (suc n) (node_at 65535 (suc n) (pages_at (layout_of e) index)) (pages_at (layout_of e) index page) s.at stop.inside pre.inside)

-- and what is to its right follows.
pub from_right : {index keys : List ℕ} {e page w a position trail b : ℕ} (level : ℕ) → (level ≡ 0 → ⊥) → (pre : FromPre index keys e level page w a position) (s : Spot)
    → Stopped w a position trail (pages_at (layout_of e) index page) s → (below : ℕ) → below ≡ (ref_at (layout_of e) (page_bytes (layout_of e) index page) s.at).1
    → (out : List ℕ) (mid r : State) → FromListed index keys e (level - 1) below w a b s.position s.trail out mid → RowListed index keys e level page (s.at + 1) a b mid r
    → FromListed index keys e level page w a b position trail out r
unfolding node_at
from_right zero k pre s stop below q out mid r f d = absurd (k refl)
from_right {index} {keys} {e} {page} {w} {a} {position} {trail} {b} (suc n) k pre s stop below q out mid r f d =
    record {
      walked = d.walked ∙ rw (add-one s.at)
          (ap (λ (m : State). visit_all keys a b m (leaves_right index e (suc n) page (suc s.at))) first
          ∙ sym (foldl-append (λ (m : State) x. visited keys a b m (pointer_of x)) (out, begun) (leaves_from (suc n) (left_from w a s.position) s.trail child) (leaves_right index e (suc n) page (suc s.at)))
          ∙ ap (visit_all keys a b (out, begun)) (sym (place_parted pre s stop)));
    }
  where
    child : Node (suc n)
    child = node_at 65535 (suc n) (pages_at (layout_of e) index) (get_or (pages_at (layout_of e) index page) s.at (0, 0))

    lower : suc n - 1 ≡ n
    lower = omega arith

    first : mid ≡ visit_all keys a b (out, begun) (leaves_from (suc n) (left_from w a s.position) s.trail child)
    first =
        (subst (λ (m : ℕ). FromListed index keys e m below w a b s.position s.trail out mid) lower f).walked
        ∙ ap (λ (p : ℕ). visit_all keys a b (out, begun) (leaves_from (suc n) (left_from w a s.position) s.trail (node_at 65535 (suc n) (pages_at (layout_of e) index) (0, p))))
        (pointer_read (layout_of e) index page s.at below q stop.inside)

-- Where the list ended in the child, nothing to its right is visited.
pub from_over : {index keys : List ℕ} {e page w a position trail b : ℕ} (level : ℕ) → (level ≡ 0 → ⊥) → (pre : FromPre index keys e level page w a position) (s : Spot)
    → Stopped w a position trail (pages_at (layout_of e) index page) s → (below : ℕ) → below ≡ (ref_at (layout_of e) (page_bytes (layout_of e) index page) s.at).1
    → (out : List ℕ) (r : State) {end : Counted} → r.1 ≡ Break end → FromListed index keys e (level - 1) below w a b s.position s.trail out r
    → FromListed index keys e level page w a b position trail out r
from_over {index} {keys} {e} {page} {b = b} level k pre s stop below q out r over f =
    from_right level k pre s stop below q out r r f (row_over index keys e level page (s.at + 1) _ b over)
