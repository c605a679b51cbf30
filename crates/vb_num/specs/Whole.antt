-- Which texts are whole numbers, as the Parse of each integral type reads them.
use Rattle.std.specs.Prelude.{◌≡◌, ℕ, ℤ, pos, neg_ℤ, Bool, false, ◌&&◌, ◌||◌, nat_le, ◌==◌, IsTrue, List, [], ◌∷◌, ◌++◌, Result, Ok, Err}
use Rattle.std.specs.List.{All}
use Rattle.std.specs.Str.Parse.{IsNumeral, digits_value}
use Rattle.vb_num.specs.{declared.{kinds.Kind.Kind, num.{Num.Num, Thrown.{Thrown, TheVariants.{Overflow, DivideByZero, Format}}}}, Kind.is_in}

-- a tab, a line feed, a vertical tab, a form feed, a carriage return or a space
abbrev pub is_blank : ℕ → Bool
is_blank u = (nat_le 9 u && nat_le u 13) || u == 32

pub data Sign : Type 0 where
  None : Sign
  Plus : Sign
  Minus : Sign

abbrev pub sign_text : Sign → List ℕ
sign_text None = []
sign_text Plus = 43 ∷ []
sign_text Minus = 45 ∷ []

abbrev pub signed : Sign → ℕ → ℤ
signed Minus n = neg_ℤ (pos n)
signed sign n = pos n

-- blanks, a sign or none, one decimal digit or more, and blanks
pub record IsWhole (units : List ℕ) (value : ℤ) : Type 0 where
  pub before : List ℕ
  pub sign : Sign
  pub digits : List ℕ
  pub after : List ℕ
  pub spelled : units ≡ before ++ (sign_text sign ++ (digits ++ after))
  pub blank_before : All (λ u. IsTrue (is_blank u)) before
  pub blank_after : All (λ u. IsTrue (is_blank u)) after
  pub numeral : IsNumeral 10 digits
  pub valued : value ≡ signed sign (digits_value 10 digits)

-- the number of the text, or why there is none
abbrev pub Parses : List ℕ → Kind → Result Num Thrown → Type 0
Parses units kind (Ok n) = IsWhole units n.value × (n.kind ≡ kind)
Parses units kind (Err Overflow) = (value : ℤ) × IsWhole units value × (is_in kind value ≡ false)
Parses units kind (Err Format) = (value : ℤ) → IsWhole units value → ⊥
Parses units kind (Err DivideByZero) = ⊥
