-- A table whose pages were changed, with another root and another number of records held in its header. Assumes nothing.
use mathlib.Core.Path.{◌≡◌, sym, ap, ◌∙◌}
use mathlib.Core.List.{List}
use Prim.Native.Nat.{ℕ, suc, ◌≤◌, ◌<◌}
use native.Mathlib.Omega.{arith}
use lib.ListN.{length, take}
use Rattle.byte_moves.proofs.OverLaws.{length_over}
use Rattle.index_table.specs.Layout.{Layout, layout_of, page_bytes, level_of, refs_of}
use Rattle.index_table.specs.Header.{entries_of, pages_of, root_of, with_root, with_held, HeaderFrom}
use Rattle.index_table.specs.Bytes.{bytes_of}
use Rattle.index_table.specs.Pages.{pages_at, in_use, root_ref, numbered_tree_at}
use Rattle.index_table.specs.Soundness.{SoundPages, root_level, numbered_tree_of}
use Rattle.index_table.proofs.Frames.{Unchanged, unchanged}
use Rattle.index_write.proofs.HeaderLaws.{front_header, root_header, held_header, root_pages, held_pages}

-- Where all pages keep their bytes, sound pages stay sound and read as before.
module _ (L : Layout) (b b' : List ℕ) (same : (q : ℕ) → page_bytes L b' q ≡ page_bytes L b q) (level root : ℕ) where
  below_stays : Unchanged L (suc level) b b' (root_ref root)
  below_stays = unchanged L b b' (suc level) (root_ref root) (λ q k. same q)

  pub pages_stay : (P : ℕ) → SoundPages L P b level root → SoundPages L P b' level root
  pages_stay P h = record {
    below = below_stays.sound P h.below;
    once = λ q. below_stays.meets q ∙ h.once q ∙ ap (λ (l : List ℕ). in_use (refs_of L l)) (sym (same q));
    cleared = λ q l. rw (same q) (h.cleared q l);
    level_high = h.level_high;
    root_rule = λ l. rw (same root) (h.root_rule l);
  }

  pub tree_stays : (nil : ℕ) → numbered_tree_at nil (pages_at L b') level root ≡ numbered_tree_at nil (pages_at L b) level root
  tree_stays nil = λ i. (level, below_stays.numbered nil i)

-- b' is the table b with its pages changed; p is the new root, and h the new number of records held.
module _ (b b' : List ℕ) (p h level : ℕ) (p_fits : p < 65536) (h_fits : h < 65536) (long : 16 ≤ length b') (front : take 16 b' ≡ take 16 b) where
  abbrev after : List ℕ
  after = with_held (with_root b' p) h

  rooted_long : length (with_root b' p) ≡ length b'
  rooted_long = length_over b' 4 (bytes_of 2 p)

  pub after_length : length after ≡ length b'
  after_length = length_over (with_root b' p) 6 (bytes_of 2 h) ∙ rooted_long

  pub after_header : HeaderFrom b after p h
  after_header =
      let f = front_header b b' front in
      let r = root_header b' p p_fits long in
      let s = held_header (with_root b' p) h h_fits (omega (arith, rooted_long, long)) in
      record {
        width = s.width ∙ r.width ∙ f.width;
        entries = s.entries ∙ r.entries ∙ f.entries;
        pages = s.pages ∙ r.pages ∙ f.pages;
        root = s.root ∙ r.root;
        held = s.held;
        spare = s.spare ∙ r.spare ∙ f.spare;
      }

  pub after_pages : (e q : ℕ) → page_bytes (layout_of e) after q ≡ page_bytes (layout_of e) b' q
  after_pages e q = held_pages (with_root b' p) h h_fits (omega (arith, rooted_long, long)) e q ∙ root_pages b' p p_fits long e q

  module _ (pages : SoundPages (layout_of (entries_of b)) (pages_of b) b' level p) where
    pub after_level : root_level after ≡ level
    after_level =
        rw (after_header.entries, after_header.root) (ap level_of (after_pages (entries_of b) p) ∙ pages.below.0.level)

    pub after_sound : SoundPages (layout_of (entries_of b)) (pages_of b) after (root_level after) (root_of after)
    after_sound = rw (after_level, after_header.root) (pages_stay (layout_of (entries_of b)) b' after (after_pages (entries_of b)) level p (pages_of b) pages)

    pub after_tree : numbered_tree_of after ≡ numbered_tree_at 65535 (pages_at (layout_of (entries_of b)) b') level p
    after_tree = rw (after_level, after_header.root, after_header.entries) (tree_stays (layout_of (entries_of b)) b' after (after_pages (entries_of b)) level p 65535)
