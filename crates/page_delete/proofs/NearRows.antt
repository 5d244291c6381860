-- Figure 11 within one page of level 0: the row that is left. Assumes nothing.
use mathlib.Core.Path.{◌≡◌, refl, sym, ap, ap₂, ◌∙◌}
use mathlib.Core.Bool.{Bool, true, true≢false}
use mathlib.Core.Option.{none}
use mathlib.Core.List.{List, [], ◌∷◌, ◌++◌, append_assoc, map-append}
use Prim.Native.Nat.{ℕ, suc, ◌+◌, ◌-◌, ◌≤◌, ◌<◌}
use native.Mathlib.Omega.{arith}
use native.Mathlib.Numerals.{add-one}
use lib.ListN.{length, get_or, take, drop, set, length-append, length-take, length-drop, length-set, take-append-drop}
use lib.Seq.{drop-cons, split_at, take-set-le, set_split}
use borrow.Author.Tests.{lt-ltb, le-ltb}
use Rattle.leaf_list.specs.Entries.{Entry, entry}
use Rattle.leaf_list.proofs.Lists.{all_append}
use Rattle.page_tree.specs.Rows.{last_depth}
use Rattle.page_tree.specs.Row.{depth_of}
use Rattle.page_tree.specs.declared.Unwind.{Unwind}
use Rattle.page_tree.specs.declared.Unwind.TheVariants.{Idle, Give, Clear}
use Rattle.page_tree.specs.OffPages.{Left, step_entry, sweep, next_depth}
use Rattle.page_tree.proofs.ListLaws.{all_left, all_right, drop_set}
use Rattle.page_tree.proofs.ClosedRows.{last_depth_append}
use Rattle.index_table.specs.Layout.{layout_of, Ref, Within, page_bytes, count_of, ref_at, Fitting, row_page, store}
use Rattle.index_table.specs.Pages.{pages_at, leaf_of}
use Rattle.index_table.proofs.PageRows.{length_refs, get_d_refs, take_refs}
use Rattle.entry_delete.specs.Entries.{Calm}
use Rattle.page_change.specs.Changing.{WholePage, with_row, without}
use Rattle.page_change.proofs.PageChanges.{row_read, row_whole, row_again}
use Rattle.page_delete.specs.OnePage.{leaf_row, asked_before, Staying, NearPre, FollowedPre, GivePre, NearDone, NearPost, struck_at, StrikePost, DummyPost}
use Rattle.page_delete.proofs.StayingEntries.{sweep_last, idle_leaves}

-- The row is left.
pub near_some : {e : ℕ} {b : List ℕ} {page at τ₀ : ℕ} {o : Left Entry} {b' : List ℕ} → NearDone e b page at τ₀ o b' → NearPost e b page at τ₀ o b' true
near_some h = record { done = λ y. h; none = λ y. absurd (true≢false y) }

-- The last depth is that of the entries behind.
last_behind : (τ σ : ℕ) (xs ys : List Ref) (z : Ref) (zs : List Ref) → last_depth depth_of τ (xs ++ z ∷ zs) ≡ last_depth depth_of σ (ys ++ z ∷ zs)
last_behind τ σ xs ys z zs = last_depth_append depth_of τ xs (z ∷ zs) ∙ sym (last_depth_append depth_of σ ys (z ∷ zs))

module _ {e : ℕ} {b : List ℕ} {page at : ℕ} (h : NearPre e b page at) where
  abbrev old : List Ref
  old = pages_at (layout_of e) b page

  abbrev behind : List Ref
  behind = drop (suc at) old

  front_fits : (i : ℕ) → Fitting 2 (take i old)
  front_fits i = all_left (λ (x : Ref). x.1 < 65536) (take i old) (drop i old) (rw (take-append-drop i old) h.fitting)

  behind_fits : Fitting 2 behind
  behind_fits = all_right (λ (x : Ref). x.1 < 65536) (take (suc at) old) behind (rw (take-append-drop (suc at) old) h.fitting)

  -- Where an entry stands behind the place, it has the last depth still,
  last_kept : suc at < length old → (kept : List Ref) → last_depth depth_of 0 (kept ++ behind) ≡ last_depth depth_of 0 old
  last_kept l kept =
      ap (λ (r : List Ref). last_depth depth_of 0 (kept ++ r)) parted
      ∙ last_behind 0 0 kept (take (suc at) old) (get_or old (suc at) (0, 0)) (drop (suc (suc at)) old)
      ∙ ap (λ (r : List Ref). last_depth depth_of 0 (take (suc at) old ++ r)) (sym parted) ∙ ap (last_depth depth_of 0) (take-append-drop (suc at) old)
    where
      parted : behind ≡ get_or old (suc at) (0, 0) ∷ drop (suc (suc at)) old
      parted = drop-cons old (suc at) (0, 0) l

  -- and so has an entry of the same depth in the place.
  last_given : {d : ℕ} → (get_or old at (0, 0)).0 ≡ d → (q : ℕ) (front : List Ref) → last_depth depth_of 0 ((front ++ (d, q) ∷ []) ++ behind) ≡ last_depth depth_of 0 old
  last_given {d} z q front =
      ap (last_depth depth_of 0) (append_assoc front ((d, q) ∷ []) behind) ∙ last_depth_append depth_of 0 front ((d, q) ∷ behind) ∙ ap (λ (t : ℕ). last_depth depth_of t behind) (sym z)
      ∙ sym (last_depth_append depth_of 0 (take at old) (get_or old at (0, 0) ∷ behind)) ∙ ap (last_depth depth_of 0) (sym (split_at old at (0, 0) h.inside))

  -- The entries that are kept before the place, and those behind it.
  near_done : {τ₀ : ℕ} {asked : Unwind} → Calm τ₀ asked → (o : Left Entry) (kept : List Ref) → length kept ≤ suc at → 1 ≤ length (kept ++ behind)
      → last_depth depth_of 0 (kept ++ behind) ≡ last_depth depth_of 0 old → Fitting 2 kept
      → sweep step_entry o.1 (leaf_row (take at old)) (o.0 ++ leaf_row behind) ≡ (leaf_row kept ++ leaf_row behind, asked)
      → (b' : List ℕ) → b' ≡ with_row e b page (kept ++ behind) → NearDone e b page at τ₀ o b'
  near_done {asked = asked} calm o kept short some last fits s b' g = record {
    row = kept ++ behind;
    asked = asked;
    calm = calm;
    bytes = g ∙ ap (λ (n : ℕ). store (layout_of e) b page (row_page e n (kept ++ behind))) h.level;
    some = some;
    few = (let f = h.whole.few in let i = h.inside in omega (arith, f, i, length-append kept behind, length-drop (suc at) old));
    fitting = all_append (λ (x : Ref). x.1 < 65536) kept behind fits behind_fits;
    last = last;
    left = s ∙ ap (λ (r : List Entry). (r, asked)) (sym (map-append (leaf_of 65535) kept behind));
  }

  -- ---- the entry before takes a depth

  module _ {d q from : ℕ} (d_is : (get_or old at (0, 0)).0 ≡ d) (some : at ≡ 0 → ⊥) (s : Staying old (at - 1) d from) (fits : q < 65536) where
    abbrev new : List Ref
    new = set old at (d, q)

    kept_fits : Fitting 2 (take from old ++ (d, q) ∷ [])
    kept_fits = all_append (λ (x : Ref). x.1 < 65536) (take from old) ((d, q) ∷ []) (front_fits from) (fits, tt)

    few_new : length new ≤ e
    few_new = let f = h.whole.few in omega (arith, f, length-set old at (d, q))

    fits_new : Fitting 2 new
    fits_new =
        rw (set_split old at (d, q) h.inside)
        (all_append (λ (x : Ref). x.1 < 65536) (take at old) ((d, q) ∷ behind) (front_fits at) (fits, behind_fits))

    left_is : without from at new ≡ (take from old ++ (d, q) ∷ []) ++ behind
    left_is =
        let k = s.few in
        ap₂ (λ (x y : List Ref). x ++ y) (take-set-le from old at (d, q) (omega (arith, k))) (drop_set old at (d, q) h.inside) ∙ sym (append_assoc (take from old) ((d, q) ∷ []) behind)

    -- The page with the entry replaced,
    module _ (b₁ : List ℕ) (w : b₁ ≡ with_row e b page new) where
      now_row : pages_at (layout_of e) b₁ page ≡ new
      now_row = rw w (row_read h.whole new few_new fits_new)

      -- of which entries can be taken out,
      pub give_close : WholePage e b₁ page × (from ≤ at) × (at ≤ length (pages_at (layout_of e) b₁ page))
      give_close =
          let k = s.few in
          let f = h.inside in
          (rw w (row_whole h.whole new few_new fits_new), omega (arith, k), omega (arith, f, (let z : length (pages_at (layout_of e) b₁ page) ≡ length new = ap length now_row in z), length-set old at (d, q)))

      module _ (q_is : q ≡ (ref_at (layout_of e) (page_bytes (layout_of e) b page) (at - 1)).1) where
        before_is : take at old ≡ take (at - 1) old ++ ref_at (layout_of e) (page_bytes (layout_of e) b page) (at - 1) ∷ []
        before_is =
            ap (λ (k : ℕ). take k old) (let z : at ≡ suc (at - 1) = omega (arith, some) in z)
            ∙ take_refs (layout_of e) (page_bytes (layout_of e) b page) (at - 1) (let i = h.inside in omega (arith, i, length_refs (layout_of e) (page_bytes (layout_of e) b page)))

        swept : sweep step_entry (Give d) (leaf_row (take at old)) (leaf_row behind) ≡ (leaf_row (take from old ++ (d, q) ∷ []) ++ leaf_row behind, asked_before d from)
        swept =
            ap (λ (r : List Ref). sweep step_entry (Give d) (leaf_row r) (leaf_row behind)) before_is
            ∙ sweep_last (Give d) (take (at - 1) old) (ref_at (layout_of e) (page_bytes (layout_of e) b page) (at - 1)) (leaf_row behind)
            (leaf_of 65535 (d, (ref_at (layout_of e) (page_bytes (layout_of e) b page) (at - 1)).1) ∷ [], Clear d) refl
            ∙ ap (λ (k : ℕ). sweep step_entry (Clear d) (leaf_row (take (at - 1) old)) (leaf_of 65535 (d, k) ∷ leaf_row behind)) (sym q_is)
            ∙ s.swept (leaf_of 65535 (d, q) ∷ leaf_row behind)
            ∙ ap (λ (r : List Entry). (r, asked_before d from))
            (sym (append_assoc (leaf_row (take from old)) (leaf_of 65535 (d, q) ∷ []) (leaf_row behind))
            ∙ ap (λ (r : List Entry). r ++ leaf_row behind) (sym (map-append (leaf_of 65535) (take from old) ((d, q) ∷ []))))

        -- is left without the entries in between.
        pub give_done : {τ₀ : ℕ} → Calm τ₀ (asked_before d from) → (b₂ : List ℕ) → b₂ ≡ with_row e b₁ page (without from at (pages_at (layout_of e) b₁ page)) → NearDone e b page at τ₀ ([], Give d) b₂
        give_done calm b₂ w₂ =
            let k = s.few in
            let i = h.inside in
            near_done calm ([], Give d) (take from old ++ (d, q) ∷ []) (omega (arith, k, some, length-append (take from old) ((d, q) ∷ []), length-take from old))
            (omega (arith, length-append (take from old ++ (d, q) ∷ []) behind, length-append (take from old) ((d, q) ∷ []))) (last_given d_is q (take from old)) kept_fits swept b₂
            (w₂ ∙ ap (λ (r : List Ref). with_row e b₁ page (without from at r)) now_row ∙ ap (λ (t : List ℕ). with_row e t page (without from at new)) w
            ∙ row_again h.whole new few_new fits_new (without from at new)
            (let f = h.whole.few in omega (arith, k, f, i, (let z : length (without from at new) ≡ length ((take from old ++ (d, q) ∷ []) ++ behind) = ap length left_is in z), length-append (take from old ++ (d, q) ∷ []) behind, length-append (take from old) ((d, q) ∷ []), length-take from old, length-drop (suc at) old))
            ∙ ap (with_row e b page) left_is)

module _ {e : ℕ} {b : List ℕ} {page at : ℕ} (h : FollowedPre e b page at) where
  abbrev row : List Ref
  row = pages_at (layout_of e) b page

  abbrev after : List Ref
  after = drop (suc at) row

  -- The page can be read up to the entry behind.
  pub followed_read : (i : ℕ) → i ≤ suc at → Within (layout_of e) b page × (i < e)
  followed_read i l = (let w = h.near.whole.few in let f = h.followed in (h.near.whole.within, omega (arith, w, f, l)))

  module _ {from n g : ℕ} (s : Staying row n g from) where
    -- What is taken out is a part of the row.
    pub clear_close : n ≡ at → WholePage e b page × (from ≤ at + 1) × (at + 1 ≤ length row)
    clear_close z = let f = h.followed in let k = s.few in (h.near.whole, omega (arith, k, z), omega (arith, f))

    -- The entry and the dummies before it go.
    pub clear_done : {τ₀ : ℕ} → Calm τ₀ (asked_before g from) → n ≡ at → (b' : List ℕ) → b' ≡ with_row e b page (without from (at + 1) row) → NearDone e b page at τ₀ ([], Clear g) b'
    clear_done calm z b' w =
        let k = s.few in
        let f = h.followed in
        near_done h.near calm ([], Clear g) (take from row) (omega (arith, k, z, length-take from row)) (omega (arith, f, length-append (take from row) after, length-drop (suc at) row))
        (last_kept h.near f (take from row)) (front_fits h.near from)
        (ap (λ (m : ℕ). sweep step_entry (Clear g) (leaf_row (take m row)) (leaf_row after)) (sym z) ∙ s.swept (leaf_row after)) b'
        (w ∙ ap (λ (m : ℕ). with_row e b page (take from row ++ drop m row)) (add-one at))

-- ---- the entry becomes a dummy

module _ {e : ℕ} {b : List ℕ} {page at d : ℕ} (h : GivePre e b page at d) where
  abbrev given : List Ref
  given = pages_at (layout_of e) b page

  dummy_done : {τ₀ : ℕ} (b' : List ℕ) → b' ≡ with_row e b page (set given at (d, 65535)) → NearDone e b page at τ₀ (entry d none ∷ [], Idle) b'
  dummy_done b' w =
      near_done h.near {asked = Idle} tt (entry d none ∷ [], Idle) (take at given ++ (d, 65535) ∷ [])
      (omega (arith, length-append (take at given) ((d, 65535) ∷ []), length-take at given))
      (omega (arith, length-append (take at given ++ (d, 65535) ∷ []) (drop (suc at) given), length-append (take at given) ((d, 65535) ∷ []))) (last_given h.near h.depth_is 65535 (take at given))
      (all_append (λ (x : Ref). x.1 < 65536) (take at given) ((d, 65535) ∷ []) (front_fits h.near at) (omega arith, tt))
      (idle_leaves (leaf_row (take at given)) (entry d none ∷ leaf_row (drop (suc at) given))
      ∙ ap (λ (r : List Entry). (r, Idle))
      (sym (append_assoc (leaf_row (take at given)) (entry d none ∷ []) (leaf_row (drop (suc at) given)))
      ∙ ap (λ (r : List Entry). r ++ leaf_row (drop (suc at) given)) (sym (map-append (leaf_of 65535) (take at given) ((d, 65535) ∷ [])))))
      b'
      (w ∙ ap (with_row e b page) (set_split given at (d, 65535) h.near.inside ∙ sym (append_assoc (take at given) ((d, 65535) ∷ []) (drop (suc at) given))))

  -- It does, between the depths before and behind it.
  pub dummy_some : {τ next : ℕ} → τ ≤ d → d ≤ next → (b' : List ℕ) → b' ≡ with_row e b page (set given at (d, 65535)) → DummyPost e b page at τ next b' true
  dummy_some {τ} {next} g k b' w = record {
    done = λ y τ₀ ν f. record { of_entry = (entry d none ∷ [], Idle); struck = rw (h.depth_is, f, le-ltb d τ g, le-ltb next d k) refl; done = dummy_done b' w };
    none = λ y. absurd (true≢false y);
  }

-- ---- figure 11 at the entry

module _ {e : ℕ} {b : List ℕ} {page at : ℕ} (h : NearPre e b page at) where
  abbrev entries : List Ref
  entries = pages_at (layout_of e) b page

  module _ {k n : ℕ} (counted : k ≡ count_of (page_bytes (layout_of e) b page)) (wide : n ≡ k) where
    -- An entry behind it.
    pub near_followed : at + 1 < n → FollowedPre e b page at
    near_followed l = record { near = h; followed = omega (arith, l, counted, wide, length_refs (layout_of e) (page_bytes (layout_of e) b page)) }

  as_struck : {τ τ₀ : ℕ} (o : Left Entry) → ((ν : ℕ) → struck_at entries at τ ν ≡ o) → (b' : List ℕ) (r : Bool) → NearPost e b page at τ₀ o b' r → StrikePost e b page at τ τ₀ b' r
  as_struck o z b' r q = record { done = λ y ν. record { of_entry = o; struck = z ν; done = q.done y }; none = q.none }

  module _ {d : ℕ} (d_is : d ≡ (ref_at (layout_of e) (page_bytes (layout_of e) b page) at).0) where
    depth_is : (get_or entries at (0, 0)).0 ≡ d
    depth_is =
        let i = h.inside in
        ap (λ (x : Ref). x.0) (get_d_refs (layout_of e) (page_bytes (layout_of e) b page) at (0, 0) (omega (arith, i, length_refs (layout_of e) (page_bytes (layout_of e) b page)))) ∙ sym d_is

    -- The entry with its depth.
    pub near_give : GivePre e b page at d
    near_give = record { near = h; depth_is = depth_is }

    -- A 1-leaf: the entry before takes its depth.
    pub strike_give : {τ τ₀ : ℕ} → d < τ → (b' : List ℕ) (r : Bool) → NearPost e b page at τ₀ ([], Give d) b' r → StrikePost e b page at τ τ₀ b' r
    strike_give {τ} g b' r q = as_struck ([], Give d) (λ ν. rw (depth_is, lt-ltb d τ g) refl) b' r q

    module _ (l : suc at < length entries) {next : ℕ} (next_is : next ≡ (ref_at (layout_of e) (page_bytes (layout_of e) b page) (at + 1)).0) (τ : ℕ) where
      follows : (ν : ℕ) → next_depth ν (leaf_row (drop (suc at) entries)) ≡ next
      follows ν =
          ap (λ (r : List Ref). next_depth ν (leaf_row r)) (drop-cons entries (suc at) (0, 0) l)
          ∙ ap (λ (x : Ref). x.0) (get_d_refs (layout_of e) (page_bytes (layout_of e) b page) (suc at) (0, 0) (omega (arith, l, length_refs (layout_of e) (page_bytes (layout_of e) b page))))
          ∙ ap (λ (j : ℕ). (ref_at (layout_of e) (page_bytes (layout_of e) b page) j).0) (sym (add-one at)) ∙ sym next_is

      -- Another with a shallower next,
      struck_clear : τ ≤ d → next < d → (ν : ℕ) → struck_at entries at τ ν ≡ ([], Clear next)
      struck_clear g k ν = rw (depth_is, follows ν, le-ltb d τ g, lt-ltb next d k) refl

      -- and one that becomes a dummy.
      struck_dummy : τ ≤ d → d ≤ next → (ν : ℕ) → struck_at entries at τ ν ≡ (entry d none ∷ [], Idle)
      struck_dummy g k ν = rw (depth_is, follows ν, le-ltb d τ g, le-ltb next d k) refl

      -- Dummies before it go with it.
      pub strike_clear : {τ₀ : ℕ} → τ ≤ d → next < d → (b' : List ℕ) (r : Bool) → NearPost e b page at τ₀ ([], Clear next) b' r → StrikePost e b page at τ τ₀ b' r
      strike_clear g k b' r q = as_struck ([], Clear next) (struck_clear g k) b' r q

      -- It is a dummy now.
      pub strike_dummy : {τ₀ : ℕ} → τ ≤ d → d ≤ next → (b' : List ℕ) → b' ≡ with_row e b page (set entries at (d, 65535)) → StrikePost e b page at τ τ₀ b' true
      strike_dummy g k b' w = as_struck (entry d none ∷ [], Idle) (struck_dummy g k) b' true (near_some (dummy_done near_give b' w))
