-- The tag code's answers, and that codes and fields give each other back (01, "Tag code"). Assumes nothing.
use mathlib.Core.Path.{◌≡◌, refl, sym, ap, subst, ◌∙◌}
use mathlib.Core.Logic.{◌↔◌}
use mathlib.Core.Bool.{Bool, true, false}
use Prim.Native.Nat.{ℕ, ◌+◌, ◌*◌, ◌^◌, ◌<◌, ◌≤◌}
use native.Mathlib.Omega.{arith}
use native.Mathlib.Nat.{mod-eq_of_lt}
use lib.Pow.{mod-pow-add}
use lib.Dec.{leb}
use borrow.Author.Tests.{le-leb, lt-leb, leb-true, leb-false}
use Rattle.tag_code.specs.declared.TagFields.{TagFields}
use Rattle.tag_code.specs.declared.Packed.{Packed}
use Rattle.tag_code.specs.declared.Unpacked.{Unpacked}
use Rattle.tag_code.specs.TagCode.{bits_of, fields_fit, code_of, fields_of, no_fields, packed, unpacked}
use Rattle.tag_code.proofs.Fields.{Fit, fit_law}

-- The answers, by what was asked.
pub packed_done : (f : TagFields) → Fit f → packed f ≡ record { number = 0; code = code_of f }
unfolding packed
packed_done f h = rw ((fit_law f).1 h)

pub packed_refused : (f : TagFields) → fields_fit f ≡ false → packed f ≡ record { number = 11; code = 0 }
unfolding packed
packed_refused f h = rw h

pub unpacked_done : (c : ℕ) → bits_of 17 26 c ≤ 999 → unpacked c ≡ record { number = 0; fields = fields_of c }
unfolding unpacked
unpacked_done c h = rw (le-leb (bits_of 17 26 c) 999 h)

pub unpacked_refused : (c : ℕ) → 999 < bits_of 17 26 c → unpacked c ≡ record { number = 11; fields = no_fields }
unfolding unpacked
unpacked_refused c h = rw (lt-leb (bits_of 17 26 c) 999 h)

-- Fields joined one by one make the code.
pub joined : (f : TagFields) (a b c d e x : ℕ) → a ≡ f.animal * 2 ^ 3 + f.retag → b ≡ a * 2 ^ 5 + f.user → c ≡ b * 2 ^ 6 + f.reserved
    → d ≡ c * 2 ^ 1 + f.block → e ≡ d * 2 ^ 10 + f.country → x ≡ e * 2 ^ 38 + f.national → x ≡ code_of f
unfolding code_of
joined f a b c d e x h₁ h₂ h₃ h₄ h₅ h₆ = omega arith

-- Fields are equal where each field is.
pub same_fields : {f g : TagFields} → f.animal ≡ g.animal → f.retag ≡ g.retag → f.user ≡ g.user → f.reserved ≡ g.reserved
    → f.block ≡ g.block → f.country ≡ g.country → f.national ≡ g.national → f ≡ g
same_fields a b c d e x y = λ i. record { animal = a i; retag = b i; user = c i; reserved = d i; block = e i; country = x i; national = y i }

-- "Taking a code apart and putting it together give back the same."
fields_back : (f : TagFields) → Fit f → fields_of (code_of f) ≡ f
unfolding fields_of code_of
fields_back f h = same_fields (omega arith) (omega arith) (omega arith) (omega arith) (omega arith) (omega arith) (omega arith)

-- A code is its first field and the rest, the rest the next field and the rest of that, and so on.
glue : (c a b d e g x n r₁ r₂ r₃ r₄ r₅ : ℕ) → c ≡ a * 2 ^ 63 + r₁ → r₁ ≡ b * 2 ^ 60 + r₂ → r₂ ≡ d * 2 ^ 55 + r₃ → r₃ ≡ e * 2 ^ 49 + r₄ → r₄ ≡ g * 2 ^ 48 + r₅
    → r₅ ≡ x * 2 ^ 38 + n
    → a * 2 ^ 63 + b * 2 ^ 60 + d * 2 ^ 55 + e * 2 ^ 49 + g * 2 ^ 48 + x * 2 ^ 38 + n * 2 ^ 0 ≡ c
glue c a b d e g x n r₁ r₂ r₃ r₄ r₅ h₁ h₂ h₃ h₄ h₅ h₆ = omega arith

code_back : (c : ℕ) → c < 2 ^ 64 → code_of (fields_of c) ≡ c
unfolding fields_of code_of
code_back c h =
    glue c _ _ _ _ _ _ _ _ _ _ _ _ (sym (mod-eq_of_lt h) ∙ mod-pow-add c 1 63) (mod-pow-add c 3 60) (mod-pow-add c 5 55) (mod-pow-add c 6 49) (mod-pow-add c 1 48)
    (mod-pow-add c 10 38 ∙ omega arith)

fields_fit_lem : (c : ℕ) → c < 2 ^ 64 → bits_of 17 26 c ≤ 999 → Fit (fields_of c)
unfolding fields_of
fields_fit_lem c h q =
    record { animal = omega arith; retag = omega arith; user = omega arith; reserved = omega arith; block = omega arith; country = q; national = omega arith }

-- A call is accepted exactly if every field fits its bits and the country is at most 999; a code, exactly if its country is.
pub pack_accepts : (f : TagFields) → ((packed f).number ≡ 0) ↔ Fit f
pack_accepts f = (to, λ h. ap (λ (a : Packed). a.number) (packed_done f h))
  where
    by : (t : Bool) → fields_fit f ≡ t → (packed f).number ≡ 0 → Fit f
    by true e q = (fit_law f).0 e
    by false e q = absurd (omega (arith, ap (λ (a : Packed). a.number) (packed_refused f e)))

    to : (packed f).number ≡ 0 → Fit f
    to = by (fields_fit f) refl

pub unpack_accepts : (c : ℕ) → ((unpacked c).number ≡ 0) ↔ (bits_of 17 26 c ≤ 999)
unpack_accepts c = (by (leb (bits_of 17 26 c) 999) refl, λ h. ap (λ (a : Unpacked). a.number) (unpacked_done c h))
  where
    by : (t : Bool) → leb (bits_of 17 26 c) 999 ≡ t → (unpacked c).number ≡ 0 → bits_of 17 26 c ≤ 999
    by true e q = leb-true (bits_of 17 26 c) 999 e
    by false e q = absurd (omega (arith, ap (λ (a : Unpacked). a.number) (unpacked_refused c (leb-false (bits_of 17 26 c) 999 e))))

-- "Taking a code apart and putting it together give back the same."
pub unpack_pack : (f : TagFields) → (packed f).number ≡ 0 → unpacked (packed f).code ≡ record { number = 0; fields = f }
unfolding fields_of
unpack_pack f q =
    let h : Fit f = (pack_accepts f).0 q in
    ap (λ (a : Packed). unpacked a.code) (packed_done f h)
    ∙ unpacked_done (code_of f) (subst (λ (g : TagFields). g.country ≤ 999) (sym (fields_back f h)) h.country)
    ∙ ap (λ (g : TagFields). record { number = 0; fields = g }) (fields_back f h)

pub pack_unpack : (c : ℕ) → c < 2 ^ 64 → (unpacked c).number ≡ 0 → packed (unpacked c).fields ≡ record { number = 0; code = c }
pack_unpack c h q =
    let k : bits_of 17 26 c ≤ 999 = (unpack_accepts c).0 q in
    ap (λ (a : Unpacked). packed a.fields) (unpacked_done c k) ∙ packed_done (fields_of c) (fields_fit_lem c h k)
    ∙ ap (λ (x : ℕ). record { number = 0; code = x }) (code_back c h)

-- Every code is below 2 ^ 64.
pub code_fits : (f : TagFields) → Fit f → code_of f < 2 ^ 64
unfolding code_of
code_fits f h = omega arith

-- "the largest national number is 274,877,906,943": it is accepted, and none above it is.
abbrev pub national_only : ℕ → TagFields
national_only n = record { animal = 1; retag = 0; user = 0; reserved = 0; block = 0; country = 999; national = n }

pub largest_national : (n : ℕ) → ((packed (national_only n)).number ≡ 0) ↔ (n ≤ 274877906943)
largest_national n = (
  (λ q. let h : Fit (national_only n) = (pack_accepts (national_only n)).0 q in omega arith),
  (λ h. (pack_accepts (national_only n)).1 (record { animal = omega arith; retag = omega arith; user = omega arith; reserved = omega arith; block = omega arith; country = omega arith; national = omega arith })),
)
