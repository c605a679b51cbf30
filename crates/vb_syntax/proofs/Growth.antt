-- Tables of names that grow more than once.
use Rattle.std.proofs.Common.{ℕ, List, ◌++◌, ap, ◌∙◌}
use Rattle.std.proofs.lemmas.List.{append_assoc}
use Rattle.vb_text.specs.Names.{Extends}

-- a table that grows twice has grown
pub grown_twice : (first second third : List (List ℕ)) → Extends second first → Extends third second → Extends third first
grown_twice first second third one two = (one.0 ++ two.0, two.1 ∙ ap (λ t. t ++ two.0) one.1 ∙ append_assoc first one.0 two.0)
