use Rattle.std.proofs.Common.{◌≡◌, ◌⊎◌, inl, inr, Bool, true, refl, sym, ap, ◌∙◌}
use Rattle.vb_syntax.specs.declared.keyword.Keyword.{Keyword}
use Rattle.vb_parse_expr.specs.Words.{word_unused}
use Rattle.vb_parse_expr.proofs.words.word_unused.Goals as goal

-- the word is one that is unused
the : {w v : Keyword} → word_unused v ≡ true → w ≡ v → true ≡ word_unused w
the unused e = sym (ap word_unused e ∙ unused)

-- it is that one, or one of the others
or : {w v : Keyword} {Q : Type 0} → word_unused v ≡ true → (Q → true ≡ word_unused w) → (w ≡ v) ⊎ Q → true ≡ word_unused w
or unused others (inl e) = the unused e
or unused others (inr q) = others q

pub returns-in-Alias : goal.returns-in-Alias
returns-in-Alias c =
    or refl (or refl (or refl (or refl (or refl (or refl (or refl (or refl (or refl (or refl (or refl (or refl (
    or refl (or refl (or refl (or refl (or refl (or refl (or refl (or refl (or refl (or refl (or refl (or refl (
    or refl (or refl (or refl (or refl (or refl (or refl (or refl (or refl (or refl (or refl (or refl (the refl))))))))))))))))))))))))))))))))))) c.in-Alias.is
