-- New entries written one behind the other, and as a row. Assumes nothing.
use mathlib.Core.Path.{◌≡◌, sym, ap, ap₂, ◌∙◌}
use mathlib.Core.List.{List, [], ◌∷◌, ◌++◌, map, append_assoc, append-nil}
use Prim.Native.Nat.{ℕ, ◌+◌, ◌*◌}
use native.Mathlib.Omega.{arith}
use lib.ListN.{length, length-append, length-map}
use Rattle.leaf_list.specs.Keys.{bits}
use Rattle.leaf_list.specs.Entries.{Entry}
use Rattle.leaf_list.specs.Search.{positions}
use Rattle.leaf_list.specs.Insertion.{dummies}
use Rattle.page_tree.specs.Row.{row_of, Holds}
use Rattle.page_tree.specs.declared.Row.{Row}
use Rattle.byte_moves.specs.Over.{over}
use Rattle.byte_moves.proofs.OverLaws.{over_append}
use Rattle.index_table.specs.Layout.{Ref, ref_bytes, row_bytes}
use Rattle.index_table.proofs.PageRows.{length_ref_bytes, length_row_bytes, row_bytes_append}
use Rattle.new_entries.specs.Entries.{ref_of, refs_for, Newly}
use Rattle.new_entries.proofs.NewLeaves.{beside, pair_refs, news_long}

module _ (w key : ℕ) where
  abbrev dummied : ℕ → ℕ → List Entry
  dummied low high = dummies low high (positions 0 (bits w key)) []

  module _ (low high x d y n : ℕ) where
    -- Dummies and two leaves.
    both_refs : refs_for w key (beside low high x d y n) ≡ map ref_of (dummied low high) ++ (high, x) ∷ (d, y) ∷ []
    both_refs = pair_refs w key low high x d y n

    pub both_count : Newly w key (beside low high x d y n) → n ≡ length (dummied low high) + 2
    both_count h =
        sym (news_long h) ∙ ap length both_refs ∙ length-append (map ref_of (dummied low high)) ((high, x) ∷ (d, y) ∷ []) ∙ ap (λ (k : ℕ). k + 2) (length-map (dummied low high) ref_of)

    -- As a row.
    pub both_row : Newly w key (beside low high x d y n) → {new first more row : Row} → Holds new 0 [] → Holds first (new.count + length (dummied low high)) (row_of new ++ map ref_of (dummied low high))
        → Holds more (first.count + 1) (row_of first ++ (high, x) ∷ []) → Holds row (more.count + 1) (row_of more ++ (d, y) ∷ []) → Holds row n (refs_for w key (beside low high x d y n))
    both_row h {new} {first} {more} {row} z f m g =
        record {
          count = omega (arith, g.count, m.count, f.count, z.count, both_count h);
          entries =
              g.entries
              ∙ ap (λ (l : List Ref). l ++ (d, y) ∷ []) (m.entries ∙ ap (λ (l : List Ref). l ++ (high, x) ∷ []) (f.entries ∙ ap (λ (l : List Ref). l ++ map ref_of (dummied low high)) z.entries))
              ∙ append_assoc (map ref_of (dummied low high)) ((high, x) ∷ []) ((d, y) ∷ [])
              ∙ sym both_refs;
        }

    -- Written from a place on.
    pub both_written : (b : List ℕ) (at : ℕ) {b₁ b₂ b₃ : List ℕ} {next : ℕ} → b₁ ≡ over b at (row_bytes 2 (map ref_of (dummied low high))) → next ≡ at + 3 * length (dummied low high) → b₂ ≡ over b₁ next (ref_bytes 2 (high, x))
        → b₃ ≡ over b₂ (next + 3) (ref_bytes 2 (d, y)) → b₃ ≡ over b at (row_bytes 2 (refs_for w key (beside low high x d y n)))
    unfolding row_bytes
    both_written b at {b₁} {b₂} {b₃} {next} f p g k =
        let front : List ℕ = row_bytes 2 (map ref_of (dummied low high)) in
        let u : List ℕ = ref_bytes 2 (high, x) in
        let v : List ℕ = ref_bytes 2 (d, y) in
        let long : length front ≡ 3 * length (dummied low high) = length_row_bytes 2 (map ref_of (dummied low high)) ∙ ap (λ (m : ℕ). 3 * m) (length-map (dummied low high) ref_of) in
        let here : next ≡ at + length front = omega (arith, p, long) in
        let there : next + 3 ≡ at + length (front ++ u) = omega (arith, p, long, length-append front u, length_ref_bytes 2 (high, x)) in
        k
        ∙ ap₂ (λ (l : List ℕ) (m : ℕ). over l m v) (g ∙ ap₂ (λ (l : List ℕ) (m : ℕ). over l m u) f here ∙ over_append b at front u) there
        ∙ over_append b at (front ++ u) v
        ∙ ap (over b at)
        (append_assoc front u v
        ∙ sym
        (ap (row_bytes 2) both_refs ∙ row_bytes_append 2 (map ref_of (dummied low high)) ((high, x) ∷ (d, y) ∷ []) ∙ ap (λ (l : List ℕ). front ++ (u ++ l)) (append-nil v)))

  -- One leaf alone, written from a place on.
  pub single_written : (d y : ℕ) (b : List ℕ) (at : ℕ) {b₁ : List ℕ} → b₁ ≡ over b at (ref_bytes 2 (d, y)) → b₁ ≡ over b at (row_bytes 2 ((d, y) ∷ []))
  unfolding row_bytes
  single_written d y b at {b₁} g = g ∙ ap (over b at) (sym (append-nil (ref_bytes 2 (d, y))))
