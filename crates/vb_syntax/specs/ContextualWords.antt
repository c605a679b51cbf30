-- The names that are words only in some places (Visual Basic Language Specification 11.0, 2.2 and 2.3).
use Rattle.std.specs.Prelude.{◌≡◌, ℕ, List, codes}
use Rattle.vb_text.specs.Names.{IsNameOf, with_name}
use Rattle.vb_syntax.specs.declared.words.ContextualWords.{ContextualWords}

-- These are the table's names for the words.
abbrev pub AreWords : List (List ℕ) → ContextualWords → Type 0
AreWords table words =
    IsNameOf table (codes "Binary") words.binary × IsNameOf table (codes "Compare") words.compare
    × IsNameOf table (codes "Custom") words.custom × IsNameOf table (codes "Explicit") words.explicit
    × IsNameOf table (codes "Infer") words.infer × IsNameOf table (codes "Iterator") words.iterator
    × IsNameOf table (codes "Off") words.off × IsNameOf table (codes "Strict") words.strict
    × IsNameOf table (codes "Text") words.text × IsNameOf table (codes "Until") words.until
    × IsNameOf table (codes "Yield") words.yields

-- the table with the words, in order
abbrev pub with_words : List (List ℕ) → List (List ℕ)
with_words table =
    let one = with_name table (codes "Binary") in
    let two = with_name one (codes "Compare") in
    let three = with_name two (codes "Custom") in
    let four = with_name three (codes "Explicit") in
    let five = with_name four (codes "Infer") in
    let six = with_name five (codes "Iterator") in
    let seven = with_name six (codes "Off") in
    let eight = with_name seven (codes "Strict") in
    let nine = with_name eight (codes "Text") in
    let ten = with_name nine (codes "Until") in
    with_name ten (codes "Yield")

-- The words of options are different names, and so are the two ways to compare texts: then an option line says one thing.
pub record OptionsApart (words : ContextualWords) : Type 0 where
  pub strict_explicit : words.strict ≡ words.explicit → ⊥
  pub strict_infer : words.strict ≡ words.infer → ⊥
  pub strict_compare : words.strict ≡ words.compare → ⊥
  pub explicit_infer : words.explicit ≡ words.infer → ⊥
  pub explicit_compare : words.explicit ≡ words.compare → ⊥
  pub infer_compare : words.infer ≡ words.compare → ⊥
  pub binary_text : words.binary ≡ words.text → ⊥
