-- The words of options are different names: their texts have different lengths.
use Rattle.std.proofs.Common.{◌≡◌, ℕ, List, length, map, slice_get, Some, codes, ap, sym, ◌∙◌}
use Rattle.std.proofs.lemmas.List.{length-map}
use Rattle.std.specs.Str.{chars}
use Rattle.vb_text.specs.{Names.{folding, AreApart, IsNameOf}, declared.names.Name.Name}
use Rattle.vb_syntax.specs.{ContextualWords.{AreWords, OptionsApart}, declared.words.ContextualWords.ContextualWords}

-- a folding is as long as its text
folding_length : (text : List ℕ) → length (folding text) ≡ length (chars text)
unfolding folding
folding_length text = length-map (chars text) _

-- texts of one name have one length
same_length : (table : List (List ℕ)) (text other : List ℕ) (n m : Name) → IsNameOf table text n → IsNameOf table other m → n ≡ m → length (chars text) ≡ length (chars other)
same_length table text other n m named other_named same =
    let folded : Some (folding text) ≡ Some (folding other) = sym named ∙ ap (λ (x : Name). slice_get (map folding table) x.index) same ∙ other_named in
    let one : folding text ≡ folding other = cc in
    sym (folding_length text) ∙ ap length one ∙ folding_length other

pub options_apart : (table : List (List ℕ)) (words : ContextualWords) → AreApart table → AreWords table words → OptionsApart words
unfolding chars
options_apart table words apart (binary, compare, custom, explicit, infer, iterator, off, strict, text, until, yields) = record {
  strict_explicit = λ e. let n = same_length table (codes "Strict") (codes "Explicit") words.strict words.explicit strict explicit e in cc;
  strict_infer = λ e. let n = same_length table (codes "Strict") (codes "Infer") words.strict words.infer strict infer e in cc;
  strict_compare = λ e. let n = same_length table (codes "Strict") (codes "Compare") words.strict words.compare strict compare e in cc;
  explicit_infer = λ e. let n = same_length table (codes "Explicit") (codes "Infer") words.explicit words.infer explicit infer e in cc;
  explicit_compare = λ e. let n = same_length table (codes "Explicit") (codes "Compare") words.explicit words.compare explicit compare e in cc;
  infer_compare = λ e. let n = same_length table (codes "Infer") (codes "Compare") words.infer words.compare infer compare e in cc;
  binary_text = λ e. let n = same_length table (codes "Binary") (codes "Text") words.binary words.text binary text e in cc;
}
