-- Entries below which no byte changes, and one change after another. Assumes nothing.
use mathlib.Core.Path.{◌≡◌, refl, ap, ◌∙◌}
use mathlib.Core.List.{List, [], ◌∷◌, ◌++◌}
use Prim.Native.Nat.{ℕ, zero, suc, ◌+◌}
use native.Mathlib.Omega.{arith}
use Rattle.leaf_list.proofs.Lists.{all_append}
use Rattle.page_tree.specs.Rows.{All}
use Rattle.page_tree.proofs.ListLaws.{sum_append, all_left, all_right}
use Rattle.index_table.specs.Layout.{Layout, Ref, page_bytes, refs_of}
use Rattle.index_table.specs.Pages.{pages_at, met, met_all, in_use}
use Rattle.index_table.proofs.Frames.{Keeps, met_self, UnchangedRow, unchanged_row}
use Rattle.index_write.specs.Standing.{Owned}
use Rattle.tree_delete.specs.Keeping.{Linked, Kept}

-- ---- links

each_linked : (L : Layout) (P n : ℕ) (b b' : List ℕ) → ((x : Ref) → Keeps L b b' (met n (pages_at L b) x) → Linked L P n b x → Linked L P n b' x)
    → (row : List Ref) → Keeps L b b' (met_all n (pages_at L b) row) → All (Linked L P n b) row → All (Linked L P n b') row
each_linked L P n b b' f [] h g = tt
each_linked L P n b b' f (x ∷ row) h g = (f x (λ q k. h q (omega arith)) g.0, each_linked L P n b b' f row (λ q k. h q (omega arith)) g.1)

-- An entry below which all pages met keep their bytes keeps its links.
pub linked_stays : (L : Layout) (P n : ℕ) (b b' : List ℕ) (x : Ref) → Keeps L b b' (met n (pages_at L b) x) → Linked L P n b x → Linked L P n b' x
unfolding met
linked_stays L P zero b b' x h g = g
linked_stays L P (suc n) b b' x h g =
    let e : page_bytes L b' x.1 ≡ page_bytes L b x.1 = h x.1 (met_self n (pages_at L b) x) in (
      record { number = g.0.number; level = rw e g.0.level; some = rw e g.0.some; few = rw e g.0.few },
      rw e g.1,
      rw e (each_linked L P n b b' (linked_stays L P n b b') (pages_at L b x.1) (λ q k. h q (omega arith)) g.2),
    )

-- So does a row of them.
pub linked_row : (L : Layout) (P n : ℕ) (b b' : List ℕ) (row : List Ref) → Keeps L b b' (met_all n (pages_at L b) row) → All (Linked L P n b) row → All (Linked L P n b') row
linked_row L P n b b' row h g = each_linked L P n b b' (linked_stays L P n b b') row h g

-- ---- changes

-- Nothing is changed.
pub kept_none : (L : Layout) (P n : ℕ) (b : List ℕ) (row : List Ref) → All (Linked L P n b) row → Kept L P n b (met_all n (pages_at L b) row) b row
kept_none L P n b row s = record { long = refl; front = refl; pages = λ q. refl; same = λ q z. refl; cleared = λ q c. c; linked = s }

-- So it is below one entry, which stays.
pub kept_self : (L : Layout) (P n : ℕ) (b : List ℕ) (x : Ref) → Linked L P n b x → Kept L P n b (met n (pages_at L b) x) b (x ∷ [])
kept_self L P n b x s = record { long = refl; front = refl; pages = λ q. omega arith; same = λ q z. refl; cleared = λ q c. c; linked = (s, tt) }

-- What is owned afterwards.
pub kept_owned : {L : Layout} {P n : ℕ} {b : List ℕ} {old : ℕ → ℕ} {b' : List ℕ} {row : List Ref} → Kept L P n b old b' row → Owned L b old
    → Owned L b' (met_all n (pages_at L b') row)
kept_owned h o q = omega (arith, h.pages q, o q)

-- One change after another.
pub kept_then : {L : Layout} {P n : ℕ} {b : List ℕ} {old : ℕ → ℕ} {b₁ : List ℕ} {ys : List Ref} {b₂ : List ℕ} {ws : List Ref}
    → Kept L P n b old b₁ ys → Kept L P n b₁ (met_all n (pages_at L b₁) ys) b₂ ws → Kept L P n b old b₂ ws
kept_then {L} {P} {n} {b} {old} {b₁} {ys} {b₂} {ws} h g = record {
  long = g.long ∙ h.long;
  front = g.front ∙ h.front;
  pages = λ q. omega (arith, h.pages q, g.pages q);
  same = λ q z.
      let e = h.same q z in
      let u : in_use (pages_at L b₁ q) ≡ in_use (pages_at L b q) = ap (λ (page : List ℕ). in_use (refs_of L page)) e in
      g.same q (omega (arith, h.pages q, u, z)) ∙ e;
  cleared = λ q c. g.cleared q (h.cleared q c);
  linked = g.linked;
}

-- What stands for an entry stands for the row of it alone.
pub kept_one : {L : Layout} {P n : ℕ} {b b' : List ℕ} {row : List Ref} (x : Ref) → Kept L P n b (met n (pages_at L b) x) b' row
    → Kept L P n b (met_all n (pages_at L b) (x ∷ [])) b' row
kept_one x h = record { long = h.long; front = h.front; pages = λ q. omega (arith, h.pages q); same = λ q z. h.same q (omega arith); cleared = h.cleared; linked = h.linked }

-- In a row, the entries mid are changed; those before them and those after them stay.
module _ (L : Layout) (P n : ℕ) (b : List ℕ) (before mid after : List Ref) (own : Owned L b (met_all n (pages_at L b) (before ++ (mid ++ after))))
    (linked : All (Linked L P n b) (before ++ (mid ++ after))) (b' : List ℕ) (row : List Ref) (h : Kept L P n b (met_all n (pages_at L b) mid) b' row) where
  abbrev met_in : List ℕ → List Ref → ℕ → ℕ
  met_in t xs q = met_all n (pages_at L t) xs q

  -- How often a page is met in a row of three parts.
  parted : (t : List ℕ) (xs ys zs : List Ref) (q : ℕ) → met_in t (xs ++ (ys ++ zs)) q ≡ met_in t xs q + met_in t ys q + met_in t zs q
  parted t xs ys zs q = let f : Ref → ℕ = λ y. met n (pages_at L t) y q in omega (arith, sum_append f xs (ys ++ zs), sum_append f ys zs)

  keeps_before : Keeps L b b' (met_in b before)
  keeps_before q k = h.same q (omega (arith, own q, parted b before mid after q))

  keeps_after : Keeps L b b' (met_in b after)
  keeps_after q k = h.same q (omega (arith, own q, parted b before mid after q))

  -- What is read below the entries before stays.
  pub before_stays : UnchangedRow L n b b' before
  before_stays = unchanged_row L b b' n before keeps_before

  -- So does what is read below those after.
  pub after_stays : UnchangedRow L n b b' after
  after_stays = unchanged_row L b b' n after keeps_after

  -- The whole row is changed to what stands in the place of mid, between the same entries.
  pub kept_at : Kept L P n b (met_all n (pages_at L b) (before ++ (mid ++ after))) b' (before ++ (row ++ after))
  kept_at = record {
    long = h.long;
    front = h.front;
    pages = λ q. omega (arith, parted b before mid after q, parted b' before row after q, h.pages q, before_stays.meets q, after_stays.meets q);
    same = λ q z. h.same q (omega (arith, parted b before mid after q));
    cleared = h.cleared;
    linked =
        let both = all_right (Linked L P n b) before (mid ++ after) linked in
        all_append (Linked L P n b') before (row ++ after) (linked_row L P n b b' before keeps_before (all_left (Linked L P n b) before (mid ++ after) linked))
        (all_append (Linked L P n b') row after h.linked (linked_row L P n b b' after keeps_after (all_right (Linked L P n b) mid after both)));
  }
