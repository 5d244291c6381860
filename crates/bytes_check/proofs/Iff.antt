-- An answer that is yes exactly if something holds. Assumes nothing.
use Rattle.std.proofs.Common.{◌≡◌, Bool, true, false, ◌↔◌, sym, refl, ◌∙◌, true≢false}

-- No, where the thing cannot be.
pub iff_no : {A : Type 0} → (A → ⊥) → (false ≡ true) ↔ A
iff_no h = ((λ t. absurd (true≢false (sym t))), (λ a. absurd (h a)))

-- Yes, where the thing is.
pub iff_yes : {A : Type 0} → A → (true ≡ true) ↔ A
iff_yes a = ((λ t. a), (λ b. refl))

-- The answer on one thing, where another holds exactly if it does.
pub iff_trans : {A B C : Type 0} → A ↔ B → B ↔ C → A ↔ C
iff_trans f g = ((λ a. g.0 (f.0 a)), (λ c. f.1 (g.1 c)))

-- What an answer of no says.
pub said_no : {A : Type 0} {b : Bool} → (b ≡ true) ↔ A → b ≡ false → A → ⊥
said_no f e a = true≢false (sym (f.1 a) ∙ e)
