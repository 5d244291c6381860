-- The tests are the definition's. Assumes nothing.
use mathlib.Core.Path.{◌≡◌}
use mathlib.Core.Bool.{false}
use native.Mathlib.Omega.{arith}
use borrow.Author.Rules.{rules}
use borrow.Author.Tests.{leb-false}
use Rattle.tag_code.specs.TagCode.{fields_fit}
use Rattle.tag_code.proofs.Fields.{last_test, unfit}
use Rattle.tag_code.proofs.TagFields.fit.Goals as goal

pub returns-then-self-le-LARGEST_COUNTRY : goal.returns-then-self-le-LARGEST_COUNTRY
returns-then-self-le-LARGEST_COUNTRY c =
    last_test c.args.self (omega arith) (omega arith) (omega arith) (omega arith) (omega arith) (omega arith)

pub returns-else-self-le-LARGEST_COUNTRY : goal.returns-else-self-le-LARGEST_COUNTRY
returns-else-self-le-LARGEST_COUNTRY c =
    let refused : fields_fit c.args.self ≡ false = unfit _ (λ h. grind (arith, leb-false, h)) in
    search rules
