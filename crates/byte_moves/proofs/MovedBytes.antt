-- Lists written over others that share places with them, and bytes moved within a table part by part. Assumes nothing.
use mathlib.Core.Path.{◌≡◌, refl, sym, ap, ap₂, ◌∙◌}
use mathlib.Core.List.{List, [], ◌∷◌, ◌++◌}
use Prim.Native.Nat.{ℕ, zero, suc, ◌+◌, ◌-◌, ◌≤◌, ◌<◌}
use native.Mathlib.Omega.{arith}
use lib.ListN.{length, take, drop, set, length-set, length-drop, take-append-drop, drop_of_length-le}
use lib.Seq.{sets, set_comm, set-set, set-get_or, drop-cons, take-take, drop-drop, take-add, take_all, length-take-le}
use Rattle.std.proofs.lemmas.List.{drop-take}
use Rattle.byte_moves.specs.Over.{over}
use Rattle.byte_moves.proofs.OverLaws.{length_over, over_none, over_append, part_behind, part_before}

-- ---- a list written into what was written

module _ {A : Type 0} where
  -- A store before what was written.
  pub set_over : (l : List A) (k : ℕ) (vs : List A) (i : ℕ) (a : A) → i < k → set (over l k vs) i a ≡ over (set l i a) k vs
  unfolding over
  set_over l k [] i a h = refl
  set_over l k (v ∷ vs) i a h = set_over (set l k v) (suc k) vs i a (omega arith) ∙ ap (λ (m : List A). sets m (suc k) vs) (set_comm l k i v a (λ e. omega (arith, e)))

  -- A store inside it.
  pub set_inside : (l : List A) (s k : ℕ) (vs : List A) (a : A) → k < length vs → set (over l s vs) (s + k) a ≡ over l s (set vs k a)
  unfolding over
  set_inside l s k [] a h = absurd (omega arith)
  set_inside l s zero (v ∷ vs) a h =
      ap (λ (n : ℕ). set (sets (set l s v) (suc s) vs) n a) (let e : s + 0 ≡ s = omega arith in e)
      ∙ set_over (set l s v) (suc s) vs s a (omega arith)
      ∙ ap (λ (m : List A). sets m (suc s) vs) (set-set l s v a)
  set_inside l s (suc k) (v ∷ vs) a h =
      ap (λ (n : ℕ). set (sets (set l s v) (suc s) vs) n a) (let e : s + suc k ≡ suc s + k = omega arith in e)
      ∙ set_inside (set l s v) (suc s) k vs a (omega arith)

  -- A list written in front of it.
  over_front : (l : List A) (k : ℕ) (ws vs : List A) → over (over l (k + length ws) vs) k ws ≡ over l k (ws ++ vs)
  unfolding over
  over_front l k [] vs = ap (λ (n : ℕ). sets l n vs) (let e : k + 0 ≡ k = omega arith in e)
  over_front l k (w ∷ ws) vs =
      ap (λ (m : List A). sets m (suc k) ws)
      (set_over l (k + suc (length ws)) vs k w (omega arith) ∙ ap (λ (n : ℕ). sets (set l k w) n vs) (let e : k + suc (length ws) ≡ suc k + length ws = omega arith in e))
      ∙ over_front (set l k w) (suc k) ws vs

  -- A list written inside it.
  pub over_inside : (l : List A) (s k : ℕ) (vs ws : List A) → k + length ws ≤ length vs → over (over l s vs) (s + k) ws ≡ over l s (over vs k ws)
  unfolding over
  over_inside l s k vs [] h = refl
  over_inside l s k vs (w ∷ ws) h =
      ap₂ (λ (m : List A) (n : ℕ). sets m n ws) (set_inside l s k vs w (omega arith)) (let e : suc (s + k) ≡ s + suc k = omega arith in e)
      ∙ over_inside l s (suc k) (set vs k w) ws (omega (arith, length-set vs k w))

  -- A part written over itself.
  pub over_self : (l : List A) (s n : ℕ) (d : A) → s + n ≤ length l → over l s (take n (drop s l)) ≡ l
  unfolding over
  over_self l s zero d h = refl
  over_self l s (suc n) d h =
      ap (λ (m : List A). sets l s (take (suc n) m)) (drop-cons l s d (omega arith))
      ∙ ap (λ (m : List A). sets m (suc s) (take n (drop (suc s) l))) (set-get_or l s d)
      ∙ over_self l (suc s) n d (omega arith)

  -- A part of a part.
  pub part_part : (l : List A) (s n j m : ℕ) → j + m ≤ n → take m (drop j (take n (drop s l))) ≡ take m (drop (s + j) l)
  part_part l s n j m h =
      sym (drop-take j m (take n (drop s l))) ∙ ap (drop j) (take-take (j + m) n (drop s l) h) ∙ drop-take j m (drop s l) ∙ ap (take m) (drop-drop j s l)

  -- A list cut in three: the parts before i, from there up to k, and from k on.
  front_part : (vs : List A) (i k : ℕ) → i ≤ k → take k vs ≡ take i vs ++ take (k - i) (drop i vs)
  front_part vs i k h = ap (λ (n : ℕ). take n vs) (let e : k ≡ i + (k - i) = omega arith in e) ∙ take-add i (k - i) vs

  back_part : (vs : List A) (i k : ℕ) → i ≤ k → drop i vs ≡ take (k - i) (drop i vs) ++ drop k vs
  back_part vs i k h =
      sym (take-append-drop (k - i) (drop i vs)) ∙ ap (λ (l : List A). take (k - i) (drop i vs) ++ l) (drop-drop (k - i) i vs ∙ ap (λ (n : ℕ). drop n vs) (let e : i + (k - i) ≡ k = omega arith in e))

  length_part : (vs : List A) (i m : ℕ) → i + m ≤ length vs → length (take m (drop i vs)) ≡ m
  length_part vs i m h = length-take-le m (drop i vs) (omega (arith, length-drop i vs))

  -- A part of what was written, written again.
  over_again : (l : List A) (s i m : ℕ) (vs : List A) (d : A) → i + m ≤ length vs → over (over l s vs) (s + i) (take m (drop i vs)) ≡ over l s vs
  over_again l s i m vs d h =
      over_inside l s i vs (take m (drop i vs)) (omega (arith, length_part vs i m h)) ∙ ap (over l s) (over_self vs i m d h)

  -- A list is written once its end from i on is, and then its first k.
  pub over_head : (l : List A) (s i k : ℕ) (vs : List A) (d : A) → i ≤ k → k ≤ length vs → over (over l (s + i) (drop i vs)) s (take k vs) ≡ over l s vs
  over_head l s i k vs d h g =
      let m : length (take i vs) ≡ i = length-take-le i vs (omega arith) in
      let c : List A = take (k - i) (drop i vs) in
      ap (over (over l (s + i) (drop i vs)) s) (front_part vs i k h)
      ∙ sym (over_append (over l (s + i) (drop i vs)) s (take i vs) c)
      ∙ ap₂ (λ (a n : ℕ). over (over (over l (s + a) (drop i vs)) s (take i vs)) (s + n) c) (sym m) m
      ∙ ap (λ (b : List A). over b (s + i) c) (over_front l s (take i vs) (drop i vs) ∙ ap (over l s) (take-append-drop i vs))
      ∙ over_again l s i (k - i) vs d (omega arith)

  -- It is written once its first k are, and then its end from i on.
  pub over_tail : (l : List A) (s i k : ℕ) (vs : List A) (d : A) → i ≤ k → k ≤ length vs → over (over l s (take k vs)) (s + i) (drop i vs) ≡ over l s vs
  over_tail l s i k vs d h g =
      let m : length (take k vs) ≡ k = length-take-le k vs g in
      let c : List A = take (k - i) (drop i vs) in
      let n : length c ≡ k - i = length_part vs i (k - i) (omega arith) in
      let same : c ≡ take (k - i) (drop i (take k vs)) = ap (λ (n : ℕ). take (k - i) (drop n vs)) (let z : i ≡ 0 + i = omega arith in z) ∙ sym (part_part vs 0 k i (k - i) (omega arith)) in
      ap (over (over l s (take k vs)) (s + i)) (back_part vs i k h)
      ∙ sym (over_append (over l s (take k vs)) (s + i) c (drop k vs))
      ∙ ap₂ (λ (b : List A) (p : ℕ). over b p (drop k vs)) (ap (over (over l s (take k vs)) (s + i)) same ∙ over_again l s i (k - i) (take k vs) d (omega (arith, m))) (let p : s + i + length c ≡ s + length (take k vs) = omega (arith, n, m) in p)
      ∙ over_append l s (take k vs) (drop k vs) ∙ ap (over l s) (take-append-drop k vs)

-- ---- n bytes from one place on, moved to another

-- Bytes moved up: those from place i on stand in their new places.
pub record Raised (b₀ : List ℕ) (to from n i : ℕ) (b : List ℕ) : Type 0 where
  pub long : length b ≡ length b₀
  pub left : i ≤ n
  pub bytes : b ≡ over b₀ (to + i) (drop i (take n (drop from b₀)))

-- Bytes moved down: the first i stand in their new places.
pub record Lowered (b₀ : List ℕ) (to from n i : ℕ) (b : List ℕ) : Type 0 where
  pub long : length b ≡ length b₀
  pub passed : i ≤ n
  pub bytes : b ≡ over b₀ to (take i (take n (drop from b₀)))

module _ (b₀ : List ℕ) (to from n : ℕ) (room : from + n ≤ length b₀) where
  -- The bytes to be moved.
  abbrev moving : List ℕ
  moving = take n (drop from b₀)

  moving_long : length moving ≡ n
  moving_long = length-take-le n (drop from b₀) (omega (arith, length-drop from b₀))

  -- The first k of them, and the last k.
  first_bytes : (k : ℕ) → k ≤ n → take k (drop from b₀) ≡ take k moving
  first_bytes k h = sym (take-take k n (drop from b₀) h)

  last_bytes : (k : ℕ) → k ≤ n → take k (drop (from + (n - k)) b₀) ≡ drop (n - k) moving
  last_bytes k h =
      sym (part_part b₀ from n (n - k) k (omega arith)) ∙ take_all k (drop (n - k) moving) (omega (arith, length-drop (n - k) moving, moving_long))

  -- The first k are moved, and then the last k, which reach back to them.
  pub ends_moved : (k : ℕ) → k ≤ n → n ≤ k + k → {b₁ b₂ x y : List ℕ} → x ≡ take k (drop from b₀) → y ≡ take k (drop (from + (n - k)) b₀) → b₁ ≡ over b₀ to x → b₂ ≡ over b₁ (to + (n - k)) y → b₂ ≡ over b₀ to moving
  ends_moved k h g ex ey e₁ e₂ =
      e₂
      ∙ ap₂ (λ (l m : List ℕ). over l (to + (n - k)) m) (e₁ ∙ ap (over b₀ to) (ex ∙ first_bytes k h)) (ey ∙ last_bytes k h)
      ∙ over_tail b₀ to (n - k) k moving 0 (omega arith) (omega (arith, moving_long))

  -- ---- up

  pub raised_none : Raised b₀ to from n n b₀
  raised_none =
      record { long = refl; left = omega arith; bytes = over_none b₀ (to + n) ∙ ap (over b₀ (to + n)) (sym (drop_of_length-le moving {i = n} (omega (arith, moving_long)))) }

  -- A part more, of k bytes.
  pub raised_more : from ≤ to → (k : ℕ) {i : ℕ} {b b₁ : List ℕ} → Raised b₀ to from n i b → k ≤ i → b₁ ≡ over b (to + (i - k)) (take k (drop (from + (i - k)) b)) → Raised b₀ to from n (i - k) b₁
  raised_more up k {i} {b} {b₁} h g e =
      let j : ℕ = i - k in
      let part : List ℕ = take k (drop j moving) in
      let long : length part ≡ k = length_part moving j k (omega (arith, moving_long, h.left)) in
      let read : take k (drop (from + j) b) ≡ part =
      ap (λ (l : List ℕ). take k (drop (from + j) l)) h.bytes ∙ part_before b₀ (to + i) (from + j) k (drop i moving) (omega arith) ∙ sym (part_part b₀ from n j k (omega (arith, h.left))) in
      let moved : b₁ ≡ over b₀ (to + j) (drop j moving) =
      e ∙ ap₂ (λ (l m : List ℕ). over l (to + j) m) (h.bytes ∙ ap (λ (p : ℕ). over b₀ p (drop i moving)) (let p : to + i ≡ to + j + length part = omega (arith, long) in p)) read
      ∙ over_front b₀ (to + j) part (drop i moving)
      ∙ ap (over b₀ (to + j)) (ap (λ (m : ℕ). take m (drop j moving) ++ drop i moving) (let m : k ≡ i - j = omega arith in m) ∙ sym (back_part moving j i (omega arith))) in
      record { long = ap length moved ∙ length_over b₀ (to + j) (drop j moving); left = omega (arith, h.left); bytes = moved }

  -- The first k are written last.
  pub raised_all : (k : ℕ) {i : ℕ} {b b₁ x : List ℕ} → Raised b₀ to from n i b → i ≤ k → k ≤ n → x ≡ take k (drop from b₀) → b₁ ≡ over b to x → b₁ ≡ over b₀ to moving
  raised_all k {i} h g f ex e =
      e ∙ ap₂ (λ (l m : List ℕ). over l to m) h.bytes (ex ∙ first_bytes k f) ∙ over_head b₀ to i k moving 0 g (omega (arith, moving_long))

  -- ---- down

  pub lowered_none : Lowered b₀ to from n 0 b₀
  lowered_none = record { long = refl; passed = omega arith; bytes = over_none b₀ to }

  -- A part more, of k bytes.
  pub lowered_more : to ≤ from → (k : ℕ) {i : ℕ} {b b₁ : List ℕ} → Lowered b₀ to from n i b → i + k ≤ n → b₁ ≡ over b (to + i) (take k (drop (from + i) b)) → Lowered b₀ to from n (i + k) b₁
  lowered_more down k {i} {b} {b₁} h g e =
      let before : length (take i moving) ≡ i = length-take-le i moving (omega (arith, moving_long)) in
      let read : take k (drop (from + i) b) ≡ take k (drop i moving) =
      ap (λ (l : List ℕ). take k (drop (from + i) l)) h.bytes ∙ part_behind b₀ to (from + i) k (take i moving) (omega (arith, before)) ∙ sym (part_part b₀ from n i k g) in
      let moved : b₁ ≡ over b₀ to (take (i + k) moving) =
      e ∙ ap₂ (λ (l m : List ℕ). over l (to + i) m) h.bytes read
      ∙ ap (λ (p : ℕ). over (over b₀ to (take i moving)) (to + p) (take k (drop i moving))) (sym before)
      ∙ over_append b₀ to (take i moving) (take k (drop i moving)) ∙ ap (over b₀ to) (sym (take-add i k moving)) in
      record { long = ap length moved ∙ length_over b₀ to (take (i + k) moving); passed = g; bytes = moved }

  -- The last k are written last.
  pub lowered_all : (k : ℕ) {i : ℕ} {b b₁ x : List ℕ} → Lowered b₀ to from n i b → n - k ≤ i → k ≤ n → x ≡ take k (drop (from + (n - k)) b₀) → b₁ ≡ over b (to + (n - k)) x → b₁ ≡ over b₀ to moving
  lowered_all k {i} h g f ex e =
      e ∙ ap₂ (λ (l m : List ℕ). over l (to + (n - k)) m) h.bytes (ex ∙ last_bytes k f) ∙ over_tail b₀ to (n - k) i moving 0 g (omega (arith, moving_long, h.passed))
