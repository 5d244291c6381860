-- What is read below an entry stays where the bytes of all pages met stay. Assumes nothing.
use mathlib.Core.Path.{◌≡◌, refl, sym, ap, ap₂, ◌∙◌}
use mathlib.Core.Logic.{◌⊎◌, inl, inr}
use mathlib.Core.List.{List, [], ◌∷◌, map}
use Prim.Native.Nat.{ℕ, zero, suc, ◌≤◌, ◌<◌}
use native.Mathlib.Omega.{arith}
use lib.ListN.{length, get_or}
use Rattle.page_tree.specs.Rows.{All}
use Rattle.index_table.specs.Layout.{Layout, Ref, page_size, page_start, Within, page_bytes, refs_of, page_of, Fitting, store}
use Rattle.index_table.specs.Pages.{Pages, pages_at, node_at, numbered_at, same, met, met_all}
use Rattle.index_table.specs.Soundness.{SoundBelow}
use Rattle.index_table.proofs.PageBytes.{page_beyond, page_stored, other_page}
use Rattle.index_table.proofs.PageRows.{length_refs, length_page_of, refs_page_of}
use Rattle.index_table.proofs.PageCounts.{same_self, same_cases}

-- ---- the entries of one page

-- A page behind the table's end has no entries.
pub refs_beyond : (L : Layout) (b : List ℕ) (p : ℕ) → length b ≤ page_start L p → length (pages_at L b p) ≡ 0
refs_beyond L b p h = length_refs L (page_bytes L b p) ∙ ap (λ (l : List ℕ). get_or l 1 0) (page_beyond L b p h)

module _ (L : Layout) (b : List ℕ) (p : ℕ) where
  -- A row that is stored is read.
  pub stored_refs : (head : List ℕ) (row : List Ref) → length head ≡ L.head → 1 < L.head → get_or head 1 0 ≡ length row → length row ≤ L.entries → Fitting L.pointer row → Within L b p
      → pages_at L (store L b p (page_of L head row)) p ≡ row
  stored_refs head row long two count few fit within =
      ap (refs_of L) (page_stored L b p (page_of L head row) (length_page_of L head row long few) within) ∙ refs_page_of L head row long two count fit

  -- Every other page is read as before.
  pub other_refs : (page : List ℕ) → length page ≡ page_size L → (q : ℕ) → (p ≡ q → ⊥) → pages_at L (store L b p page) q ≡ pages_at L b q
  other_refs page sized q n = ap (refs_of L) (other_page L b p page sized q n)

-- ---- all below an entry

-- The page that an entry of rank n + 1 points at is met.
pub met_self : (n : ℕ) (pages : Pages) (x : Ref) → 1 ≤ met (suc n) pages x x.1
unfolding met
met_self n pages x = omega (arith, same_self x.1)

-- What is read below an entry is the same of two tables.
pub record Unchanged (L : Layout) (n : ℕ) (b b' : List ℕ) (x : Ref) : Type 0 where
  pub node : (nil : ℕ) → node_at nil n (pages_at L b') x ≡ node_at nil n (pages_at L b) x
  pub numbered : (nil : ℕ) → numbered_at nil n (pages_at L b') x ≡ numbered_at nil n (pages_at L b) x
  pub meets : (q : ℕ) → met n (pages_at L b') x q ≡ met n (pages_at L b) x q
  pub sound : (P : ℕ) → SoundBelow L P n b x → SoundBelow L P n b' x

-- The same for a row of entries.
pub record UnchangedRow (L : Layout) (n : ℕ) (b b' : List ℕ) (row : List Ref) : Type 0 where
  pub nodes : (nil : ℕ) → map (node_at nil n (pages_at L b')) row ≡ map (node_at nil n (pages_at L b)) row
  pub numbereds : (nil : ℕ) → map (numbered_at nil n (pages_at L b')) row ≡ map (numbered_at nil n (pages_at L b)) row
  pub meets : (q : ℕ) → met_all n (pages_at L b') row q ≡ met_all n (pages_at L b) row q
  pub sound : (P : ℕ) → All (SoundBelow L P n b) row → All (SoundBelow L P n b') row

-- The pages that f counts keep their bytes.
abbrev pub Keeps : Layout → List ℕ → List ℕ → (ℕ → ℕ) → Type 0
Keeps L b b' f = (q : ℕ) → 1 ≤ f q → page_bytes L b' q ≡ page_bytes L b q

module _ (L : Layout) (b b' : List ℕ) where
  each : (n : ℕ) → ((x : Ref) → Keeps L b b' (met n (pages_at L b) x) → Unchanged L n b b' x)
      → (row : List Ref) → Keeps L b b' (met_all n (pages_at L b) row) → UnchangedRow L n b b' row
  each n f [] h = record { nodes = λ nil. refl; numbereds = λ nil. refl; meets = λ q. refl; sound = λ P s. tt }
  each n f (x ∷ row) h =
      let a = f x (λ q k. h q (omega arith)) in
      let c = each n f row (λ q k. h q (omega arith)) in
      record {
        nodes = λ nil. ap₂ (λ y l. y ∷ l) (a.node nil) (c.nodes nil);
        numbereds = λ nil. ap₂ (λ y l. y ∷ l) (a.numbered nil) (c.numbereds nil);
        meets = λ q. omega (arith, a.meets q, c.meets q);
        sound = λ P s. (a.sound P s.0, c.sound P s.1);
      }

  -- An entry below which all pages met keep their bytes.
  pub unchanged : (n : ℕ) (x : Ref) → Keeps L b b' (met n (pages_at L b) x) → Unchanged L n b b' x
  unfolding met node_at numbered_at
  unchanged zero x h = record { node = λ nil. refl; numbered = λ nil. refl; meets = λ q. refl; sound = λ P s. tt }
  unchanged (suc n) x h =
      let e : page_bytes L b' x.1 ≡ page_bytes L b x.1 = h x.1 (met_self n (pages_at L b) x) in
      let a = each n (unchanged n) (pages_at L b x.1) (λ q k. h q (omega arith)) in
      record {
        node = λ nil. rw e (a.nodes nil);
        numbered = λ nil. rw e (ap (λ l. (x.1, l)) (a.numbereds nil));
        meets = λ q. rw e (omega (arith, a.meets q));
        sound = λ P s. (record { number = s.0.number; level = rw e s.0.level; some = rw e s.0.some; few = rw e s.0.few }, rw e s.1, rw e (a.sound P s.2));
      }

  -- A row of such entries.
  pub unchanged_row : (n : ℕ) (row : List Ref) → Keeps L b b' (met_all n (pages_at L b) row) → UnchangedRow L n b b' row
  unchanged_row n row h = each n (unchanged n) row h

-- ---- a page is stored that is not met

module _ (L : Layout) (b : List ℕ) (p : ℕ) (page : List ℕ) (sized : length page ≡ page_size L) where
  store_keeps : (f : ℕ → ℕ) → f p ≡ 0 → Keeps L b (store L b p page) f
  store_keeps f h q k = go (same_cases p q)
    where
      go : (p ≡ q) ⊎ ((p ≡ q → ⊥) × (same p q ≡ 0)) → page_bytes L (store L b p page) q ≡ page_bytes L b q
      go (inl e) = absurd (let z : f q ≡ 0 = ap f (sym e) ∙ h in omega arith)
      go (inr e) = other_page L b p page sized q e.0

  -- An entry below which the page is not met.
  pub store_apart : (n : ℕ) (x : Ref) → met n (pages_at L b) x p ≡ 0 → Unchanged L n b (store L b p page) x
  store_apart n x h = unchanged L b (store L b p page) n x (store_keeps (met n (pages_at L b) x) h)

  -- A row of such entries.
  pub store_apart_row : (n : ℕ) (row : List Ref) → met_all n (pages_at L b) row p ≡ 0 → UnchangedRow L n b (store L b p page) row
  store_apart_row n row h = unchanged_row L b (store L b p page) n row (store_keeps (met_all n (pages_at L b) row) h)
