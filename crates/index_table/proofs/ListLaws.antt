-- The list of a function's values. Assumes nothing.
use mathlib.Core.Path.{◌≡◌, refl, sym, ap, ap₂, ◌∙◌}
use mathlib.Core.List.{[], ◌∷◌, ◌++◌}
use Prim.Native.Nat.{ℕ, zero, suc, ◌+◌, ◌-◌, ◌≤◌, ◌<◌}
use native.Mathlib.Omega.{arith}
use native.Mathlib.Numerals.{add-one}
use lib.ListN.{length, get_or, take, drop}
use Rattle.index_table.specs.Bytes.{table}

module _ {A : Type 0} where
  -- There are n values.
  pub length_table : (f : ℕ → A) (i n : ℕ) → length (table f i n) ≡ n
  unfolding table
  length_table f i zero = refl
  length_table f i (suc n) = ap suc (length_table f (suc i) n)

  -- The first n and the next m.
  pub table_add : (f : ℕ → A) (i n m : ℕ) → table f i (n + m) ≡ table f i n ++ table f (i + n) m
  unfolding table
  table_add f i zero m = ap₂ (table f) (let e : i ≡ i + 0 = omega arith in e) (let e : 0 + m ≡ m = omega arith in e)
  table_add f i (suc n) m =
      ap (table f i) (let e : suc n + m ≡ suc (n + m) = omega arith in e) ∙ ap (λ l. f i ∷ l) (table_add f (suc i) n m)
      ∙ ap (λ (k : ℕ). f i ∷ (table f (suc i) n ++ table f k m)) (let e : suc i + n ≡ i + suc n = omega arith in e)

  -- One more at the end.
  pub table_snoc : (f : ℕ → A) (i n : ℕ) → table f i (n + 1) ≡ table f i n ++ f (i + n) ∷ []
  unfolding table
  table_snoc f i n = table_add f i n 1

  -- One less in front.
  pub table_cons : (f : ℕ → A) (i n : ℕ) → i < n → table f i (n - i) ≡ f i ∷ table f (i + 1) (n - (i + 1))
  unfolding table
  table_cons f i n h = ap (table f i) (let e : n - i ≡ suc (n - (i + 1)) = omega arith in e) ∙ ap (λ (k : ℕ). f i ∷ table f k (n - (i + 1))) (sym (add-one i))

  -- The value at i, between those before and those behind.
  pub table_at : (f : ℕ → A) (i n : ℕ) → i < n → table f 0 n ≡ table f 0 i ++ f i ∷ table f (i + 1) (n - (i + 1))
  table_at f i n h =
      ap (table f 0) (let e : n ≡ i + (n - i) = omega arith in e) ∙ table_add f 0 i (n - i) ∙ ap (λ (k : ℕ). table f 0 i ++ table f k (n - i)) (let e : 0 + i ≡ i = omega arith in e)
      ∙ ap (λ l. table f 0 i ++ l) (table_cons f i n h)

  -- Two functions with the same values there.
  pub table_ext : (f g : ℕ → A) (i n : ℕ) → ((k : ℕ) → i ≤ k → k < i + n → f k ≡ g k) → table f i n ≡ table g i n
  unfolding table
  table_ext f g i zero h = refl
  table_ext f g i (suc n) h = ap₂ (λ x l. x ∷ l) (h i (omega arith) (omega arith)) (table_ext f g (suc i) n (λ k a b. h k (omega arith) (omega arith)))

  -- The same values, counted from one place before.
  pub table_shift : (f : ℕ → A) (i n : ℕ) → table f (suc i) n ≡ table (λ k. f (suc k)) i n
  unfolding table
  table_shift f i zero = refl
  table_shift f i (suc n) = ap (λ l. f (suc i) ∷ l) (table_shift f (suc i) n)

  -- The first k.
  pub take_table : (f : ℕ → A) (i k n : ℕ) → k ≤ n → take k (table f i n) ≡ table f i k
  unfolding table
  take_table f i zero n h = refl
  take_table f i (suc k) zero h = absurd (omega arith)
  take_table f i (suc k) (suc n) h = ap (λ l. f i ∷ l) (take_table f (suc i) k n (omega arith))

  -- All but the first k.
  pub drop_table : (f : ℕ → A) (i k n : ℕ) → drop k (table f i n) ≡ table f (i + k) (n - k)
  unfolding table
  drop_table f i zero n = ap₂ (table f) (let e : i ≡ i + 0 = omega arith in e) (let e : n ≡ n - 0 = omega arith in e)
  drop_table f i (suc k) zero = sym (ap (table f (i + suc k)) (let e : 0 - suc k ≡ 0 = omega arith in e))
  drop_table f i (suc k) (suc n) = drop_table f (suc i) k n ∙ ap₂ (table f) (let e : suc i + k ≡ i + suc k = omega arith in e) (let e : n - k ≡ suc n - suc k = omega arith in e)

  -- The value at a place.
  pub get_d_table : (f : ℕ → A) (j n i : ℕ) (d : A) → i < n → get_or (table f j n) i d ≡ f (j + i)
  unfolding table
  get_d_table f j zero i d h = absurd (omega arith)
  get_d_table f j (suc n) zero d h = ap f (let e : j ≡ j + 0 = omega arith in e)
  get_d_table f j (suc n) (suc i) d h = get_d_table f (suc j) n i d (omega arith) ∙ ap f (let e : suc j + i ≡ j + suc i = omega arith in e)
