-- How the modifiers of a line are read: private steps on lists, which the code equals.
use Rattle.std.specs.Prelude.{if◌then◌else◌, Bool, true, false, not, ℕ, zero, suc, List, [], ◌∷◌, ◌++◌, length, Option, Some, None}
use Rattle.vb_syntax.specs.declared.{keyword.Keyword.Keyword, tokens.Token.Token, declaration.{Access.Access, Modifier.Modifier, PropertyKind.PropertyKind}}
use Rattle.vb_syntax.specs.declared.keyword.Keyword.TheVariants as word
use Rattle.vb_syntax.specs.declared.tokens.Token.TheVariants as token
use Rattle.vb_syntax.specs.declared.declaration.Access.TheVariants as access
use Rattle.vb_syntax.specs.declared.declaration.Modifier.TheVariants as modifier
use Rattle.vb_syntax.specs.declared.declaration.PropertyKind.TheVariants as property
use Rattle.vb_parse_expr.specs.TypeReading.{Read}
use Rattle.vb_parse_decl.specs.DeclarationLines.{has_read_only}

abbrev pub word_modifier : Keyword → Option Modifier
word_modifier word.Public = Some (modifier.Access access.Public)
word_modifier word.Private = Some (modifier.Access access.Private)
word_modifier word.Protected = Some (modifier.Access access.Protected)
word_modifier word.Friend = Some (modifier.Access access.Friend)
word_modifier word.Shared = Some modifier.Shared
word_modifier word.Overridable = Some modifier.Overridable
word_modifier word.Overrides = Some modifier.Overrides
word_modifier word.MustOverride = Some modifier.MustOverride
word_modifier word.NotOverridable = Some modifier.NotOverridable
word_modifier word.Overloads = Some modifier.Overloads
word_modifier word.Shadows = Some modifier.Shadows
word_modifier word.ReadOnly = Some modifier.ReadOnly
word_modifier w = None

abbrev pub modifier_before : List Token → Option Modifier → Read Modifier
modifier_before ts None = None
modifier_before ts (Some m) = Some (m, ts)

unfoldable pub after_protected_friend : List Token → Option (List Token)
after_protected_friend (token.Keyword word.Protected ∷ token.Keyword word.Friend ∷ ts) = Some ts
after_protected_friend ts = None

unfoldable pub first_word : List Token → Read Modifier
first_word (token.Keyword w ∷ ts) = modifier_before ts (word_modifier w)
first_word ts = None

-- `Protected Friend` is one
abbrev pub one_or_word : List Token → Option (List Token) → Read Modifier
one_or_word ts None = first_word ts
one_or_word ts (Some rest) = Some (modifier.Access access.ProtectedFriend, rest)

unfoldable pub first_modifier : List Token → Read Modifier
first_modifier ts = one_or_word ts (after_protected_friend ts)

-- the loop makes at most so many turns
abbrev pub modifier_on : (List Modifier → List Token → List Modifier × List Token) → List Modifier → List Token → Read Modifier → List Modifier × List Token
modifier_on go ms ts None = (ms, ts)
modifier_on go ms ts (Some p) = go (ms ++ p.0 ∷ []) p.1

unfoldable pub modifiers_from : ℕ → List Modifier → List Token → List Modifier × List Token
modifiers_from zero ms ts = (ms, ts)
modifiers_from (suc n) ms ts = modifier_on (modifiers_from n) ms ts (first_modifier ts)

unfoldable pub read_modifiers : List Token → List Modifier × List Token
read_modifiers ts = modifiers_from (length ts) [] ts

abbrev pub only_access : List Modifier → Option (Option Access)
only_access [] = Some None
only_access (modifier.Access a ∷ []) = Some (Some a)
only_access ms = None

abbrev pub is_last_read_only : Modifier → List Modifier → Bool
is_last_read_only modifier.ReadOnly behind = not (has_read_only behind)
is_last_read_only m behind = false

unfoldable pub without_last : List Modifier → List Modifier
without_last [] = []
without_last (m ∷ ms) = if is_last_read_only m ms then without_last ms else m ∷ without_last ms

abbrev pub split_where : Bool → List Modifier → List Modifier × PropertyKind
split_where true ms = (without_last ms, property.ReadOnly)
split_where false ms = (ms, property.ReadWrite)

-- without the last `ReadOnly`, which gives the kind of a property
abbrev pub property_split : List Modifier → List Modifier × PropertyKind
property_split ms = split_where (has_read_only ms) ms
