-- What is asked of an entry that is not deeper changes nothing, and nothing is asked before it. Assumes nothing.
use mathlib.Core.Path.{◌≡◌, refl, ap, ◌∙◌}
use mathlib.Core.Option.{none, some}
use mathlib.Core.List.{List, [], ◌∷◌, ◌++◌, append-nil}
use Prim.Native.Nat.{ℕ, zero, suc, ◌≤◌}
use native.Mathlib.Omega.{arith}
use lib.ListN.{length, length-map}
use borrow.Author.Tests.{le-ltb}
use Rattle.leaf_list.specs.Entries.{Entry, entry, depth_of as entry_depth}
use Rattle.page_tree.specs.Rows.{All, last_depth}
use Rattle.page_tree.specs.Row.{depth_of}
use Rattle.page_tree.specs.declared.Unwind.{Unwind}
use Rattle.page_tree.specs.declared.Unwind.TheVariants.{Idle, Give, Clear}
use Rattle.page_tree.specs.OffPages.{step_entry, sweep}
use Rattle.page_tree.specs.Numbered.{Numbered, kept_under, step_numbered}
use Rattle.index_table.specs.Layout.{Layout, Ref}
use Rattle.index_table.specs.Pages.{pages_at, numbered_at, leaf_of}
use Rattle.tree_delete.specs.Keeping.{numbers_at, Linked}
use Rattle.entry_delete.specs.Entries.{Calm}

-- What is asked before a row whose last entry stays; an empty row asks what it is asked.
abbrev pub asked_past : List Ref → Unwind → Unwind
asked_past [] s = s
asked_past (x ∷ xs) s = Idle

pub past_calm : (τ : ℕ) (row : List Ref) (s : Unwind) → Calm (last_depth depth_of τ row) s → Calm τ (asked_past row s)
past_calm τ [] s c = c
past_calm τ (x ∷ row) s c = tt

past_some : (row : List Ref) (s : Unwind) → 1 ≤ length row → asked_past row s ≡ Idle
past_some [] s l = absurd (omega arith)
past_some (x ∷ row) s l = refl

past_idle : (row : List Ref) → asked_past row Idle ≡ Idle
past_idle [] = refl
past_idle (x ∷ row) = refl

-- An entry of level 0 stays.
calm_entry : (s : Unwind) (x : Entry) → Calm (entry_depth x) s → step_entry s x ≡ (x ∷ [], Idle)
calm_entry Idle x c = refl
calm_entry (Give d) x c = absurd c
calm_entry (Clear g) (entry d none) c = rw (le-ltb g d c) refl
calm_entry (Clear g) (entry d (some r)) c = refl

-- A page with entries is kept under its number.
pub kept_some : {A : Type 0} (p : ℕ) (xs : List A) → 1 ≤ length xs → kept_under p xs ≡ (p, xs) ∷ []
kept_some p [] h = absurd (omega arith)
kept_some p (x ∷ xs) h = refl

module _ (L : Layout) (P : ℕ) (b : List ℕ) where
  calm_all : (n : ℕ)
      → ((x : Ref) → Linked L P n b x → (s : Unwind) → Calm x.0 s → step_numbered n s (numbered_at 65535 n (pages_at L b) x) ≡ (numbered_at 65535 n (pages_at L b) x ∷ [], Idle))
      → (row : List Ref) → All (Linked L P n b) row → (τ : ℕ) (s : Unwind) → Calm (last_depth depth_of τ row) s → (ys : List (Numbered n))
      → sweep (step_numbered n) s (numbers_at n (pages_at L b) row) ys ≡ (numbers_at n (pages_at L b) row ++ ys, asked_past row s)
  calm_all n f [] g τ s c ys = refl
  calm_all n f (x ∷ row) g τ s c ys = rw (calm_all n f row g.1 x.0 s c ys, f x g.0 (asked_past row s) (past_calm x.0 row s c)) refl

  calm_one : (n : ℕ) (x : Ref) → Linked L P n b x → (s : Unwind) → Calm x.0 s → step_numbered n s (numbered_at 65535 n (pages_at L b) x) ≡ (numbered_at 65535 n (pages_at L b) x ∷ [], Idle)
  unfolding numbered_at
  calm_one zero x g s c = calm_entry s (leaf_of 65535 x) c
  calm_one (suc n) x g s c =
      let row = pages_at L b x.1 in
      rw (calm_all n (calm_one n) row g.2 0 s (rw g.1 at c) [], append-nil (numbers_at n (pages_at L b) row), past_some row s g.0.some)
      (ap (λ (t : List (Numbered (suc n))). (t, Idle)) (kept_some x.1 (numbers_at n (pages_at L b) row) (omega (arith, length-map row (numbered_at 65535 n (pages_at L b)), g.0.some))))

  -- All entries of a row stay, where τ is the depth before it.
  pub calm_row : (n : ℕ) (row : List Ref) → All (Linked L P n b) row → (τ : ℕ) (s : Unwind) → Calm (last_depth depth_of τ row) s → (ys : List (Numbered n))
      → sweep (step_numbered n) s (numbers_at n (pages_at L b) row) ys ≡ (numbers_at n (pages_at L b) row ++ ys, asked_past row s)
  calm_row n row g τ s c ys = calm_all n (calm_one n) row g τ s c ys

  -- So it is where nothing is asked.
  pub idle_row : (n : ℕ) (row : List Ref) → All (Linked L P n b) row → (ys : List (Numbered n)) → sweep (step_numbered n) Idle (numbers_at n (pages_at L b) row) ys ≡ (numbers_at n (pages_at L b) row ++ ys, Idle)
  idle_row n row g ys = calm_row n row g 0 Idle tt ys ∙ ap (λ (s : Unwind). (numbers_at n (pages_at L b) row ++ ys, s)) (past_idle row)
