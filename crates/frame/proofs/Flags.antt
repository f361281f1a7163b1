-- What the code's flags say of the tests in the definitions.
-- Assumes nothing.
use mathlib.Core.Path.{◌≡◌, sym, ◌∙◌}
use mathlib.Core.Bool.{Bool, true, false, not}
use borrow.Author.Tests.{not-true, not-false}

-- a call's answer, where its negation was tested
pub says_no : {a r : Bool} → r ≡ a → not r ≡ true → a ≡ false
says_no {r = r} e t = sym e ∙ not-true r t

pub says_yes : {a r : Bool} → r ≡ a → not r ≡ false → a ≡ true
says_yes {r = r} e t = sym e ∙ not-false r t
