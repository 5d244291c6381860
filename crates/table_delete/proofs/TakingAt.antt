-- Removal where one page of level 0 changes alone: the root and its level stay until pages are merged. Assumes nothing.
use mathlib.Core.Path.{◌≡◌, refl, sym, ap, subst, ◌∙◌}
use mathlib.Core.Bool.{false}
use mathlib.Core.List.{List}
use Prim.Native.Nat.{ℕ, zero, suc, ◌+◌, ◌≤◌, ◌<◌}
use native.Mathlib.Omega.{arith}
use native.Mathlib.Numerals.{add-one}
use lib.ListN.{length}
use Rattle.leaf_list.specs.Keys.{bits}
use Rattle.leaf_list.specs.Search.{positions}
use Rattle.page_tree.specs.OffPages.{Left}
use Rattle.page_tree.specs.Numbered.{Numbered}
use Rattle.index_table.specs.Layout.{layout_of, Within, page_bytes}
use Rattle.index_table.specs.Pages.{pages_at, numbered_at, root_ref}
use Rattle.index_table.specs.declared.layout.PageNo.{PageNo}
use Rattle.index_table.specs.declared.layout.Root.{Root}
use Rattle.index_table.proofs.NumberLaws.{Bytes}
use Rattle.index_table.proofs.PageBytes.{within_table}
use Rattle.index_table.proofs.PageRows.{length_refs, refs_fit}
use Rattle.page_change.proofs.WholePages.{cleared_whole}
use Rattle.table_search.specs.declared.Leaf.{Leaf}
use Rattle.table_search.specs.Places.{left_from, NextPosition, Way}
use Rattle.page_delete.specs.OnePage.{NearPre, StruckNear}
use Rattle.std.specs.Prelude.{Some}
use Rattle.entry_delete.specs.declared.Remnant.{Remnant}
use Rattle.tree_delete.specs.Removing.{RemovePre, RemovePost}
use Rattle.tree_merge.specs.Merges.{none_missed, Covered}
use Rattle.tree_merge.proofs.MergeLaws.{covered_all, merge_low}
use Rattle.table_delete.specs.Taking.{lowest_level, LowerPre, LowerPost, FinishPre, FinishPost, TakePre, TakeAtPre, TakePost}
use Rattle.table_delete.specs.Blanking.{Quiet, BlankPre}
use Rattle.table_delete.proofs.QuietWays.{LeafPage, way_page, way_quiet, way_row, LowestKnown, lowest_known, way_none}
use Rattle.table_delete.proofs.Finishing.{finish_remove, finish_merge, finish_lower, finish_post}
use Rattle.table_delete.proofs.Lowering.{lower_leaf, lower_stop}
use Rattle.table_delete.proofs.TakingOut.{take_remove, take_finish, take_post}

module _ {b : List ℕ} {e P level : ℕ} (root : PageNo) {w key : ℕ} {leaf : Leaf} (pre : TakeAtPre b e P level root.0 w key leaf) (bytes : Bytes b) where
  remove_pre : RemovePre e P (suc level) b (root_ref root.0) w key pre.first
  remove_pre = rw (add-one level) at (take_remove pre.take bytes pre.first root.0 pre.begins refl)

  leaf_page : LeafPage e P b leaf
  leaf_page = way_page level 0 false leaf remove_pre pre.way

  -- The page found can be changed.
  pub take_near : NearPre e b leaf.page.0 leaf.at
  take_near = record {
    whole =
        cleared_whole e b leaf.page.0 bytes (within_table (layout_of e) P leaf.page.0 b (omega (arith, pre.take.tree.table)) leaf_page.sized.number) leaf_page.sized.few
        (pre.take.tree.pages.cleared leaf.page.0 leaf_page.sized.number);
    level = leaf_page.sized.level;
    fitting = refs_fit (layout_of e) b leaf.page.0 bytes;
    inside = leaf_page.inside;
  }

  -- The page alone changes.
  pub near_quiet : (b' : List ℕ) → ((ν : ℕ) → StruckNear e b leaf.page.0 leaf.at leaf.trail leaf.before ν b') → Quiet e P (suc level) b (root_ref root.0) (left_from w key pre.first) 0 0 b'
  near_quiet b' d = way_quiet level 0 0 false leaf remove_pre pre.way b' d

-- The entry found from the root down may become a dummy.
pub take_blank : {b : List ℕ} {e P level : ℕ} (root : PageNo) {w key first : ℕ} → TakePre b e P level root.0 w key → Bytes b → NextPosition w key 0 first
    → BlankPre e P (suc level) b (root_ref root.0) w key first
take_blank {level = level} root {first = first} pre bytes begins = record { remove = rw (add-one level) at (take_remove pre bytes first root.0 begins refl); cleared = pre.tree.pages.cleared }

-- ---- every page above level 0 stays

module _ {b : List ℕ} {e P level : ℕ} (root : PageNo) {w key first : ℕ} (pre : TakePre b e P level root.0 w key) (begins : NextPosition w key 0 first) (b' : List ℕ)
    (quiet : Quiet e P (suc level) b (root_ref root.0) (left_from w key first) 0 0 b') where
  -- What is left of the root's entry.
  abbrev left : Remnant
  left = record { left = Some (record { depth = 0; pointer = root.0 }); state = quiet.asked }

  removed : RemovePost e P (level + 1) b (0, root.0) w key first 0 0 b' left
  removed = rw (add-one level) (record {
    kept = quiet.kept;
    numbers = sym (ap (λ (o : Left (Numbered (suc level))). o.0) quiet.left);
    state = sym (ap (λ (o : Left (Numbered (suc level))). o.1) quiet.left);
  })

  -- Pages can be merged,
  pub quiet_finish : (lowest : ℕ) → Covered e level b' (root_ref root.0) (positions 0 (bits w key)) lowest → FinishPre e P level b' root.0 w key lowest
  quiet_finish lowest c = take_finish pre begins refl removed refl root.0 refl lowest c

  -- and the tree is without the entry found.
  pub quiet_taken : (b₂ : List ℕ) (r : Root) → FinishPost e P level b' root.0 w key b₂ r → TakePost b e P level root.0 w key b₂ r
  quiet_taken b₂ r g = take_post pre begins refl removed refl root.0 refl b₂ r g

-- ---- the page of level 0 changed alone, and is the one that covers the key

module _ {b : List ℕ} {e P level : ℕ} (root : PageNo) {w key : ℕ} {leaf : Leaf} (pre : TakeAtPre b e P level root.0 w key leaf) (bytes : Bytes b) {b' : List ℕ}
    (d : (ν : ℕ) → StruckNear e b leaf.page.0 leaf.at leaf.trail leaf.before ν b') where
  quiet : Quiet e P (suc level) b (root_ref root.0) (left_from w key pre.first) 0 0 b'
  quiet = near_quiet root pre bytes b' d

  -- Its count can be read.
  pub near_within : Within (layout_of e) b' leaf.page.0
  near_within = within_table (layout_of e) P leaf.page.0 b' (omega (arith, pre.take.tree.table, quiet.kept.long)) (leaf_page root pre bytes).sized.number

  module _ {lowest : ℕ} (lowest_is : lowest ≡ lowest_level e (pages_at (layout_of e) b') leaf) where
    known : LowestKnown e b' leaf lowest
    known = rw lowest_is (lowest_known e b' leaf)

    near_covered : Covered e level b' (root_ref root.0) (positions 0 (bits w key)) lowest
    near_covered = record {
      some = known.some;
      none =
          ap (λ (bs : List ℕ). none_missed e lowest level bs (numbered_at 65535 (suc level) (pages_at (layout_of e) b') (root_ref root.0))) pre.begins.left
          ∙ way_none level 0 false leaf lowest (remove_pre root pre bytes) pre.way b' d (finish_remove (quiet_finish root pre.take pre.begins b' quiet 1 covered_all) pre.begins) known;
    }

    -- So pages can be merged from that level up.
    pub near_finish : FinishPre e P level b' root.0 w key lowest
    near_finish = quiet_finish root pre.take pre.begins b' quiet lowest near_covered

    -- Where no page is to be looked at, the root rule does nothing either.
    lowered : LowerPre e P level b' root.0 → LowerPost e P level b' root.0 b' (record { page = root; level = level })
    lowered = go level (remove_pre root pre bytes) pre.way pre.take.tree.pages.root_rule
      where
        go : (n : ℕ) → RemovePre e P (suc n) b (root_ref root.0) w key pre.first → Way w key e (pages_at (layout_of e) b) n root.0 pre.first 0 false leaf
            → (1 ≤ n → 2 ≤ length (pages_at (layout_of e) b root.0)) → LowerPre e P n b' root.0 → LowerPost e P n b' root.0 b' (record { page = root; level = n })
        go zero h a rule l = lower_leaf zero root refl l
        go (suc n) h a rule l =
            lower_stop (suc n) root (λ y. omega (arith, y)) l refl
            (λ y. let k = rule (omega arith) in
            let same : length (pages_at (layout_of e) b' root.0) ≡ length (pages_at (layout_of e) b root.0) = ap length (way_row 0 false leaf h a b' d) in
            omega (arith, y, k, same, length_refs (layout_of e) (page_bytes (layout_of e) b' root.0)))

    pub near_calm : level < lowest → TakePost b e P level root.0 w key b' (record { page = root; level = level })
    near_calm low =
        let m = merge_low level low (finish_merge near_finish pre.begins) in
        quiet_taken root pre.take pre.begins b' quiet b' (record { page = root; level = level })
        (finish_post near_finish pre.begins m (lowered (finish_lower near_finish pre.begins m)))

-- No byte was changed: the tree is as it was.
pub far_pre : {b b₁ : List ℕ} {e P level root w key : ℕ} → b₁ ≡ b → TakePre b e P level root w key → TakePre b₁ e P level root w key
far_pre {e = e} {P = P} {level = level} {root = root} {w = w} {key = key} z h = subst (λ (t : List ℕ). TakePre t e P level root w key) (sym z) h

-- So is what is left of it.
pub far_post : {b b₁ b₂ : List ℕ} {e P level root w key : ℕ} {r : Root} → b₁ ≡ b → TakePost b₁ e P level root w key b₂ r → TakePost b e P level root w key b₂ r
far_post {b₂ = b₂} {e = e} {P = P} {level = level} {root = root} {w = w} {key = key} {r = r} z h = subst (λ (t : List ℕ). TakePost t e P level root w key b₂ r) z h
