-- Changes of pages one after the other, and of one entry of a row. Assumes nothing.
use mathlib.Core.Path.{◌≡◌, refl, ◌∙◌}
use mathlib.Core.Logic.{◌⊎◌, inl, inr}
use mathlib.Core.List.{List, ◌∷◌, ◌++◌}
use Prim.Native.Nat.{ℕ, ◌+◌, ◌≤◌}
use native.Mathlib.Omega.{arith}
use Rattle.leaf_list.proofs.Lists.{all_append}
use Rattle.page_tree.specs.Rows.{All}
use Rattle.page_tree.proofs.ListLaws.{sum_append, all_left, all_right}
use Rattle.index_table.specs.Layout.{Layout, Ref, page_bytes}
use Rattle.index_table.specs.Pages.{pages_at, met, met_all, in_use}
use Rattle.index_table.specs.Soundness.{SoundBelow}
use Rattle.index_table.proofs.Frames.{UnchangedRow, unchanged_row}
use Rattle.index_write.specs.Standing.{Owned, Stands}

-- Nothing is changed.
pub stands_none : (L : Layout) (P n : ℕ) (b : List ℕ) (row : List Ref) → All (SoundBelow L P n b) row → Stands L P n b (met_all n (pages_at L b) row) b row
stands_none L P n b row s = record { long = refl; front = refl; pages = λ q. refl; same = λ q z u. refl; cleared = λ q c. c; sound = s }

-- What is owned afterwards.
pub stands_owned : {L : Layout} {P n : ℕ} {b : List ℕ} {old : ℕ → ℕ} {b' : List ℕ} {row : List Ref} → Stands L P n b old b' row → Owned L b old
    → Owned L b' (met_all n (pages_at L b') row)
stands_owned h o q = omega (arith, h.pages q, o q)

-- One change after another, where no page is taken by the first and freed by the second.
pub stands_then : {L : Layout} {P n : ℕ} {b : List ℕ} {old : ℕ → ℕ} {b₁ : List ℕ} {ys : List Ref} {b₂ : List ℕ} {ws : List Ref}
    → ((q : ℕ) → (in_use (pages_at L b₁ q) ≤ in_use (pages_at L b q)) ⊎ (in_use (pages_at L b₁ q) ≤ in_use (pages_at L b₂ q)))
    → Stands L P n b old b₁ ys → Stands L P n b₁ (met_all n (pages_at L b₁) ys) b₂ ws → Stands L P n b old b₂ ws
stands_then {L} {P} {n} {b} {old} {b₁} {ys} {b₂} {ws} mid h g = record {
  long = g.long ∙ h.long;
  front = g.front ∙ h.front;
  pages = λ q. omega (arith, h.pages q, g.pages q);
  same = same;
  cleared = λ q c. g.cleared q (h.cleared q c);
  sound = g.sound;
}
  where
    same : (q : ℕ) → old q ≡ 0 → in_use (pages_at L b q) ≡ in_use (pages_at L b₂ q) → page_bytes L b₂ q ≡ page_bytes L b q
    same q z u = go (mid q)
      where
        go : (in_use (pages_at L b₁ q) ≤ in_use (pages_at L b q)) ⊎ (in_use (pages_at L b₁ q) ≤ in_use (pages_at L b₂ q)) → page_bytes L b₂ q ≡ page_bytes L b q
        go (inl m) = g.same q (omega (arith, h.pages q, g.pages q, u, z, m)) (omega (arith, h.pages q, g.pages q, u, z, m)) ∙ h.same q z (omega (arith, h.pages q, g.pages q, u, z, m))
        go (inr m) = g.same q (omega (arith, h.pages q, g.pages q, u, z, m)) (omega (arith, h.pages q, g.pages q, u, z, m)) ∙ h.same q z (omega (arith, h.pages q, g.pages q, u, z, m))

-- In a row, the entry x is changed; those before it and those after it stay.
module _ (L : Layout) (P n : ℕ) (b : List ℕ) (before : List Ref) (x : Ref) (after : List Ref) (own : Owned L b (met_all n (pages_at L b) (before ++ x ∷ after)))
    (sound : All (SoundBelow L P n b) (before ++ x ∷ after)) (b' : List ℕ) (row : List Ref) (h : Stands L P n b (met n (pages_at L b) x) b' row) where
  parted : (q : ℕ) → met_all n (pages_at L b) (before ++ x ∷ after) q ≡ met_all n (pages_at L b) before q + met n (pages_at L b) x q + met_all n (pages_at L b) after q
  parted q = sum_append (λ y. met n (pages_at L b) y q) before (x ∷ after) ∙ omega arith

  -- A page met below an entry that is not changed keeps its bytes.
  pub before_stays : UnchangedRow L n b b' before
  before_stays = unchanged_row L b b' n before (λ q k. h.same q (omega (arith, own q, parted q)) (omega (arith, own q, parted q, h.pages q)))

  pub after_stays : UnchangedRow L n b b' after
  after_stays = unchanged_row L b b' n after (λ q k. h.same q (omega (arith, own q, parted q)) (omega (arith, own q, parted q, h.pages q)))

  pub stands_at : Stands L P n b (met_all n (pages_at L b) (before ++ x ∷ after)) b' (before ++ row ++ after)
  stands_at = record {
    long = h.long;
    front = h.front;
    pages = λ q.
        omega (arith, parted q, h.pages q, sum_append (λ y. met n (pages_at L b') y q) (before ++ row) after, sum_append (λ y. met n (pages_at L b') y q) before row, before_stays.meets q, after_stays.meets q);
    same = λ q z u. h.same q (omega (arith, parted q)) u;
    cleared = h.cleared;
    sound =
        all_append (SoundBelow L P n b') (before ++ row) after
        (all_append (SoundBelow L P n b') before row (before_stays.sound P (all_left (SoundBelow L P n b) before (x ∷ after) sound)) h.sound)
        (after_stays.sound P (all_right (SoundBelow L P n b) before (x ∷ after) sound).1);
  }
