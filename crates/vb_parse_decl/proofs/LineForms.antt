-- What stands behind the modifiers of a line tells which of its forms the line is.
use Rattle.std.proofs.Common.{◌≡◌, ◌⊎◌, inl, inr, ℕ, ◌+◌, ◌-◌, ◌≤◌, Bool, true, false, List, [], ◌∷◌, ◌++◌, length, drop, Option, Some, None, refl, sym, ap, subst, ◌∙◌, append_assoc, append-nil, arith, length-append}
use Rattle.std.specs.Prelude.{if◌then◌else◌}
use Rattle.std.proofs.Math.Seq.{drop-append_seam}
use Rattle.std.proofs.lemmas.Bool.{both_ways}
use Rattle.vb_text.specs.declared.names.Name.{Name}
use Rattle.vb_syntax.specs.declared.{keyword.Keyword.Keyword, tokens.Token.Token, declarator.{Declarator.Declarator, VariableIdentifier.VariableIdentifier, VariableModifier.VariableModifier}, declaration.{Modifier.Modifier, PropertyKind.PropertyKind}, item.DeclarationLine.DeclarationLine, words.ContextualWords.ContextualWords}
use Rattle.vb_syntax.specs.declared.keyword.Keyword.TheVariants as word
use Rattle.vb_syntax.specs.declared.symbol.Symbol.TheVariants as sign
use Rattle.vb_syntax.specs.declared.tokens.Token.TheVariants as token
use Rattle.vb_syntax.specs.declared.declarator.Declarator.TheVariants as declarator
use Rattle.vb_syntax.specs.declared.declarator.VariableModifier.TheVariants as variable
use Rattle.vb_syntax.specs.declared.declaration.ClassModifier.TheVariants as class_modifier
use Rattle.vb_syntax.specs.declared.declaration.FunctionKind.TheVariants as function
use Rattle.vb_syntax.specs.declared.declaration.PropertyKind.TheVariants as property
use Rattle.vb_syntax.specs.declared.item.DeclarationLine.TheVariants as line
use Rattle.vb_syntax.specs.declared.item.EventAccessorKind.TheVariants as accessor
use Rattle.vb_parse_expr.specs.Words.{comma, name_of}
use Rattle.vb_parse_decl.specs.{Parts.{reserved, equal, Begins, Words, IsParted, AreListed}, Declarators.{IsModified, IsIdentifier, IsDeclarator}, Declarations.{modifier_words, Modified}, DeclarationLines.{AreModifiersOf, property_words, IsProperty, Behind, IsDeclarationLine}, ModifierReading.{after_protected_friend, first_word, first_modifier, read_modifiers}, LineReading.{begins_member, variables_at, begins_constants}}
use Rattle.vb_parse_decl.proofs.{ReadersModifiers.{AreRead, are_read, are_found}, LinesRead.IsHeaderLine}

-- HOW DECLARATORS BEGIN

-- a comma, `As`, `=` or a parenthesis that opens, which stand behind the name of a variable
follows : List Token → Bool
follows (token.Symbol sign.Comma ∷ ts) = true
follows (token.Symbol sign.Equal ∷ ts) = true
follows (token.Symbol sign.OpenParenthesis ∷ ts) = true
follows (token.Keyword word.As ∷ ts) = true
follows ts = false

record NameFirst (ts : List Token) : Type 0 where
  t : Token
  us : List Token
  n : Name
  split : ts ≡ t ∷ us
  named : name_of t ≡ Some n
  behind : follows us ≡ true

identifier_first : (m : VariableModifier) (t : Token) (n : Name) (us rest : List Token) → name_of t ≡ Some n → IsModified m us → follows rest ≡ true → NameFirst (t ∷ (us ++ rest))
unfolding follows
identifier_first variable.Plain t n us rest named p e =
    record { t = t; us = us ++ rest; n = n; split = refl; named = named; behind = ap (λ vs. follows (vs ++ rest)) p ∙ e }
identifier_first variable.Array t n us rest named p e =
    record { t = t; us = us ++ rest; n = n; split = refl; named = named; behind = ap (λ vs. follows (vs ++ rest)) p }
identifier_first (variable.Bound x) t n us rest named (vs, is, p) e =
    record { t = t; us = us ++ rest; n = n; split = refl; named = named; behind = ap (λ ws. follows (ws ++ rest)) is }

moved : (ts us : List Token) → ts ≡ us → NameFirst us → NameFirst ts
moved ts us e f = subst NameFirst (sym e) f

comma_follows : (ts : List Token) → follows (comma ∷ ts) ≡ true
unfolding follows
comma_follows ts = refl

as_follows : (ts : List Token) → follows (reserved word.As ∷ ts) ≡ true
unfolding follows
as_follows ts = refl

equal_follows : (ts : List Token) → follows (equal ∷ ts) ≡ true
unfolding follows
equal_follows ts = refl

one_identifier : (us rest : List Token) (v : VariableIdentifier) → IsIdentifier us v → follows rest ≡ true → NameFirst (us ++ rest)
one_identifier us rest v (t, vs, is, named, p) e =
    moved (us ++ rest) (t ∷ (vs ++ rest)) (ap (λ ws. ws ++ rest) is) (identifier_first v.modifier t v.name vs rest named p e)

identifiers_first : (us rest : List Token) (vs : List VariableIdentifier) → AreListed IsIdentifier us vs → follows rest ≡ true → NameFirst (us ++ rest)
identifiers_first us rest vs (AreListed.one {x = v} p) e = one_identifier us rest v p e
identifiers_first us rest vs (AreListed.more {ts = ts} {us = ws} {x = v} p ps) e =
    moved ((ts ++ comma ∷ ws) ++ rest) (ts ++ comma ∷ (ws ++ rest)) (append_assoc ts (comma ∷ ws) rest)
    (one_identifier ts (comma ∷ (ws ++ rest)) v p (comma_follows (ws ++ rest)))

parted_first : {Y : Type 0} (R : List Token → Y → Type 0) (us rest : List Token) (vs : List VariableIdentifier) (y : Y)
    → IsParted (reserved word.As) (AreListed IsIdentifier) R us vs y → NameFirst (us ++ rest)
parted_first R us rest vs y p =
    moved (us ++ rest) (p.left ++ reserved word.As ∷ (p.right ++ rest)) (ap (λ ws. ws ++ rest) p.split ∙ append_assoc p.left (reserved word.As ∷ p.right) rest)
    (identifiers_first p.left (reserved word.As ∷ (p.right ++ rest)) vs p.is_left (as_follows (p.right ++ rest)))

declarator_first : (us rest : List Token) (d : Declarator) → IsDeclarator us d → NameFirst (us ++ rest)
declarator_first us rest (declarator.As vs a None) p = parted_first _ us rest vs a p
declarator_first us rest (declarator.As vs a (Some i)) p = parted_first _ us rest vs (a, i) p
declarator_first us rest (declarator.AsNew vs a xs) p = parted_first _ us rest vs (a, xs) p
declarator_first us rest (declarator.Inferred n x) (t, vs, is, named, (ws, is2, p)) =
    record {
      t = t;
      us = vs ++ rest;
      n = n;
      split = ap (λ xs. xs ++ rest) is;
      named = named;
      behind = ap (λ xs. follows (xs ++ rest)) is2 ∙ equal_follows (ws ++ rest);
    }

declarators_first : (ts : List Token) (ds : List Declarator) → AreListed IsDeclarator ts ds → NameFirst ts
declarators_first ts ds (AreListed.one {x = d} p) = moved ts (ts ++ []) (sym (append-nil ts)) (declarator_first ts [] d p)
declarators_first ts ds (AreListed.more {ts = us} {us = vs} {x = d} p ps) = declarator_first us (comma ∷ vs) d p

no_member : (us : List Token) → follows us ≡ true → begins_member us ≡ false
unfolding follows
no_member (token.Keyword word.Function ∷ us) f = absurd cc
no_member (token.Keyword word.Event ∷ us) f = absurd cc
no_member us f = refl

first_variable : (t : Token) (us : List Token) (n : Name) → name_of t ≡ Some n → follows us ≡ true → variables_at (t ∷ us) ≡ Some 0
first_variable (token.EscapedName m) us n e f = refl
first_variable (token.Name m) us n e f = ap (λ (b : Bool). if b then None else Some 0) (no_member us f)
first_variable t us n e f = absurd cc

first_no_constants : (t : Token) (us : List Token) (n : Name) → name_of t ≡ Some n → begins_constants (t ∷ us) ≡ false
first_no_constants (token.EscapedName m) us n e = refl
first_no_constants (token.Name m) us n e = refl
first_no_constants t us n e = absurd cc

name_no_modifier : (t : Token) (us : List Token) (n : Name) → name_of t ≡ Some n → first_modifier (t ∷ us) ≡ None
unfolding first_modifier after_protected_friend first_word
name_no_modifier (token.EscapedName m) us n e = refl
name_no_modifier (token.Name m) us n e = refl
name_no_modifier t us n e = absurd cc

-- THE FORMS

pub record Form (ts : List Token) (constants : Bool) (variables : Option ℕ) : Type 0 where
  pub begins : begins_constants ts ≡ constants
  pub at : variables_at ts ≡ variables
  pub stops : first_modifier ts ≡ None

-- a header begins with a word of its own
word_form : (ts us : List Token) (w : Keyword) → ts ≡ reserved w ∷ us → Form (reserved w ∷ us) false None → Form ts false None
word_form ts us w e f = subst (λ vs. Form vs false None) (sym e) f

form_module : (us : List Token) → Form (reserved word.Module ∷ us) false None
unfolding first_modifier after_protected_friend first_word
form_module us = record { begins = refl; at = refl; stops = refl }

form_class : (us : List Token) → Form (reserved word.Class ∷ us) false None
unfolding first_modifier after_protected_friend first_word
form_class us = record { begins = refl; at = refl; stops = refl }

form_must_inherit : (us : List Token) → Form (reserved word.MustInherit ∷ us) false None
unfolding first_modifier after_protected_friend first_word
form_must_inherit us = record { begins = refl; at = refl; stops = refl }

form_not_inheritable : (us : List Token) → Form (reserved word.NotInheritable ∷ us) false None
unfolding first_modifier after_protected_friend first_word
form_not_inheritable us = record { begins = refl; at = refl; stops = refl }

form_interface : (us : List Token) → Form (reserved word.Interface ∷ us) false None
unfolding first_modifier after_protected_friend first_word
form_interface us = record { begins = refl; at = refl; stops = refl }

form_delegate : (us : List Token) → Form (reserved word.Delegate ∷ us) false None
unfolding first_modifier after_protected_friend first_word
form_delegate us = record { begins = refl; at = refl; stops = refl }

form_inherits : (us : List Token) → Form (reserved word.Inherits ∷ us) false None
unfolding first_modifier after_protected_friend first_word
form_inherits us = record { begins = refl; at = refl; stops = refl }

form_implements : (us : List Token) → Form (reserved word.Implements ∷ us) false None
unfolding first_modifier after_protected_friend first_word
form_implements us = record { begins = refl; at = refl; stops = refl }

form_sub : (us : List Token) → Form (reserved word.Sub ∷ us) false None
unfolding first_modifier after_protected_friend first_word
form_sub us = record { begins = refl; at = refl; stops = refl }

form_function : (us : List Token) → Form (reserved word.Function ∷ us) false None
unfolding first_modifier after_protected_friend first_word
form_function us = record { begins = refl; at = refl; stops = refl }

form_write_only : (us : List Token) → Form (reserved word.WriteOnly ∷ us) false None
unfolding first_modifier after_protected_friend first_word
form_write_only us = record { begins = refl; at = refl; stops = refl }

form_property : (us : List Token) → Form (reserved word.Property ∷ us) false None
unfolding first_modifier after_protected_friend first_word
form_property us = record { begins = refl; at = refl; stops = refl }

form_event : (us : List Token) → Form (reserved word.Event ∷ us) false None
unfolding first_modifier after_protected_friend first_word
form_event us = record { begins = refl; at = refl; stops = refl }

form_get : (us : List Token) → Form (reserved word.Get ∷ us) false None
unfolding first_modifier after_protected_friend first_word
form_get us = record { begins = refl; at = refl; stops = refl }

form_set : (us : List Token) → Form (reserved word.Set ∷ us) false None
unfolding first_modifier after_protected_friend first_word
form_set us = record { begins = refl; at = refl; stops = refl }

form_add_handler : (us : List Token) → Form (reserved word.AddHandler ∷ us) false None
unfolding first_modifier after_protected_friend first_word
form_add_handler us = record { begins = refl; at = refl; stops = refl }

form_remove_handler : (us : List Token) → Form (reserved word.RemoveHandler ∷ us) false None
unfolding first_modifier after_protected_friend first_word
form_remove_handler us = record { begins = refl; at = refl; stops = refl }

form_raise_event : (us : List Token) → Form (reserved word.RaiseEvent ∷ us) false None
unfolding first_modifier after_protected_friend first_word
form_raise_event us = record { begins = refl; at = refl; stops = refl }

form_dim : (us : List Token) → Form (reserved word.Dim ∷ us) false (Some 1)
unfolding first_modifier after_protected_friend first_word
form_dim us = record { begins = refl; at = refl; stops = refl }

form_const : (us : List Token) → Form (reserved word.Const ∷ us) true None
unfolding first_modifier after_protected_friend first_word
form_const us = record { begins = refl; at = refl; stops = refl }

form_iterator : (n : Name) (us : List Token) → Form (token.Name n ∷ reserved word.Function ∷ us) false None
unfolding first_modifier after_protected_friend first_word
form_iterator n us = record { begins = refl; at = refl; stops = refl }

form_custom : (n : Name) (us : List Token) → Form (token.Name n ∷ reserved word.Event ∷ us) false None
unfolding first_modifier after_protected_friend first_word
form_custom n us = record { begins = refl; at = refl; stops = refl }

named_form : (words : ContextualWords) (ts us : List Token) (n : Name) → ts ≡ token.Name n ∷ us → Form (token.Name n ∷ us) false None → Form ts false None
named_form words ts us n e f = subst (λ vs. Form vs false None) (sym e) f

pub header_form : (words : ContextualWords) (d : DeclarationLine) (ts : List Token) → IsHeaderLine words d → Behind words d ts → Form ts false None
header_form words (line.Module a n) ts header p = word_form ts p.0 word.Module p.1 (form_module p.0)
header_form words (line.Class a None n ps) ts header p = word_form ts p.0 word.Class p.1 (form_class p.0)
header_form words (line.Class a (Some class_modifier.MustInherit) n ps) ts header p = word_form ts p.0 word.MustInherit p.1 (form_must_inherit p.0)
header_form words (line.Class a (Some class_modifier.NotInheritable) n ps) ts header p = word_form ts p.0 word.NotInheritable p.1 (form_not_inheritable p.0)
header_form words (line.Interface a n ps) ts header p = word_form ts p.0 word.Interface p.1 (form_interface p.0)
header_form words (line.Delegate a k n qs ps r) ts header p = word_form ts p.0 word.Delegate p.1 (form_delegate p.0)
header_form words (line.Inherits bases) ts header p = word_form ts p.0 word.Inherits p.1 (form_inherits p.0)
header_form words (line.Implements bases) ts header p = word_form ts p.0 word.Implements p.1 (form_implements p.0)
header_form words (line.Variables ms ds) ts header p = absurd header
header_form words (line.Constants ms ds) ts header p = absurd header
header_form words (line.Sub ms s is) ts header p = word_form ts p.0 word.Sub p.1 (form_sub p.0)
header_form words (line.Constructor ms ps is) ts header p = word_form ts p.0 word.Sub p.1 (form_sub p.0)
header_form words (line.Function ms function.Regular s r is) ts header p = word_form ts p.0 word.Function p.1 (form_function p.0)
header_form words (line.Function ms function.Iterator s r is) ts header (us, is1, (vs, is2, p)) =
    named_form words ts (reserved word.Function ∷ vs) words.iterator (is1 ∙ ap (λ ws. token.Name words.iterator ∷ ws) is2) (form_iterator words.iterator vs)
header_form words (line.Property ms h) ts header p = property_form h.kind ts p
  where
    property_form : (k : PropertyKind) (us : List Token) → Words (property_words k) (IsProperty h) us → Form us false None
    property_form property.ReadWrite us q = word_form us q.0 word.Property q.1 (form_property q.0)
    property_form property.ReadOnly us q = word_form us q.0 word.Property q.1 (form_property q.0)
    property_form property.WriteOnly us q = word_form us q.0 word.WriteOnly q.1 (form_write_only q.0)
header_form words (line.Event ms n h is) ts header p = word_form ts p.0 word.Event p.1 (form_event p.0)
header_form words (line.CustomEvent ms n a) ts header (us, is1, (vs, is2, p)) =
    named_form words ts (reserved word.Event ∷ vs) words.custom (is1 ∙ ap (λ ws. token.Name words.custom ∷ ws) is2) (form_custom words.custom vs)
header_form words (line.Get a) ts header p = word_form ts [] word.Get p (form_get [])
header_form words (line.Set a ps) ts header p = word_form ts p.0 word.Set p.1 (form_set p.0)
header_form words (line.EventAccessor accessor.AddHandler ps) ts header p = word_form ts p.0 word.AddHandler p.1 (form_add_handler p.0)
header_form words (line.EventAccessor accessor.RemoveHandler ps) ts header p = word_form ts p.0 word.RemoveHandler p.1 (form_remove_handler p.0)
header_form words (line.EventAccessor accessor.RaiseEvent ps) ts header p = word_form ts p.0 word.RaiseEvent p.1 (form_raise_event p.0)

constants_form : (ts us : List Token) → ts ≡ reserved word.Const ∷ us → Form ts true None
constants_form ts us e = subst (λ vs. Form vs true None) (sym e) (form_const us)

-- how many tokens stand before declarators
record VariablesForm (ts : List Token) (ds : List Declarator) : Type 0 where
  pub before : ℕ
  pub form : Form ts false (Some before)
  pub listed : AreListed IsDeclarator (drop before ts) ds

variables_form : (ts : List Token) (ds : List Declarator) → (AreListed IsDeclarator ts ds ⊎ Begins word.Dim (λ us. AreListed IsDeclarator us ds) ts) → VariablesForm ts ds
variables_form ts ds (inl p) =
    let f = declarators_first ts ds p in
    let form : Form (f.t ∷ f.us) false (Some 0) = record {
      begins = first_no_constants f.t f.us f.n f.named;
      at = first_variable f.t f.us f.n f.named f.behind;
      stops = name_no_modifier f.t f.us f.n f.named;
    } in
    record { before = 0; form = subst (λ vs. Form vs false (Some 0)) (sym f.split) form; listed = p }
variables_form ts ds (inr (us, is, p)) = record {
  before = 1;
  form = subst (λ vs. Form vs false (Some 1)) (sym is) (form_dim us);
  listed = subst (λ vs. AreListed IsDeclarator vs ds) (sym (ap (λ vs. drop 1 vs) is)) p;
}

behind_stops : (words : ContextualWords) (d : DeclarationLine) (ts : List Token) → Behind words d ts → first_modifier ts ≡ None
behind_stops words (line.Variables ms ds) ts p = let f = variables_form ts ds p.1 in f.form.stops
behind_stops words (line.Constants ms ds) ts p = let f = constants_form ts p.1.0 p.1.1 in f.stops
behind_stops words d ts p = let f = header_form words d ts tt p in f.stops

-- WHICH FORM IT IS

pub as_constants : (words : ContextualWords) (d : DeclarationLine) (all : List Modifier) (ts : List Token) → AreModifiersOf d all → Behind words d ts → begins_constants ts ≡ true
    → (ds : List Declarator) × (d ≡ line.Constants all ds) × (all ≡ [] → ⊥) × AreListed IsDeclarator (drop 1 ts) ds
as_constants words (line.Constants ms ds) all ts are (some, (us, is, p)) e =
    (ds, ap (λ (xs : List Modifier). line.Constants xs ds) are, λ empty. some (are ∙ empty), subst (λ vs. AreListed IsDeclarator vs ds) (sym (ap (λ vs. drop 1 vs) is)) p)
as_constants words (line.Variables ms ds) all ts are p e = let f = variables_form ts ds p.1 in absurd (both_ways (begins_constants ts) f.form.begins e)
as_constants words d all ts are p e = let f = header_form words d ts tt p in absurd (both_ways (begins_constants ts) f.begins e)

pub as_variables : (words : ContextualWords) (d : DeclarationLine) (all : List Modifier) (ts : List Token) (k : ℕ) → AreModifiersOf d all → Behind words d ts → variables_at ts ≡ Some k
    → (ds : List Declarator) × (d ≡ line.Variables all ds) × (all ≡ [] → ⊥) × AreListed IsDeclarator (drop k ts) ds
as_variables words (line.Variables ms ds) all ts k are p e =
    let f = variables_form ts ds p.1 in
    let both : Some f.before ≡ Some k = sym f.form.at ∙ e in
    let same : f.before ≡ k = cc in
    (ds, ap (λ (xs : List Modifier). line.Variables xs ds) are, λ empty. p.0 (are ∙ empty), subst (λ (n : ℕ). AreListed IsDeclarator (drop n ts) ds) same f.listed)
as_variables words (line.Constants ms ds) all ts k are p e =
    let f = constants_form ts p.1.0 p.1.1 in
    let none : None ≡ Some k = sym f.at ∙ e in absurd cc
as_variables words d all ts k are p e =
    let f = header_form words d ts tt p in
    let none : None ≡ Some k = sym f.at ∙ e in absurd cc

pub as_header : (words : ContextualWords) (d : DeclarationLine) (ts : List Token) → Behind words d ts → begins_constants ts ≡ false → variables_at ts ≡ None
    → IsHeaderLine words d
as_header words (line.Constants ms ds) ts p e v = let f = constants_form ts p.1.0 p.1.1 in absurd (both_ways (begins_constants ts) e f.begins)
as_header words (line.Variables ms ds) ts p e v =
    let f = variables_form ts ds p.1 in
    let none : None ≡ Some f.before = sym v ∙ f.form.at in absurd cc
as_header words d ts p e v = tt

-- THE WHOLE LINE

pub line_read : (words : ContextualWords) (d : DeclarationLine) (all : List Modifier) (ts : List Token) → Modified all (Behind words d) ts → AreRead (Behind words d) all ts
line_read words d all ts p = are_read (Behind words d) (behind_stops words d) all ts p

-- read so, it has these modifiers, and is spelled behind them
pub record ReadsAs (words : ContextualWords) (ms : List Modifier) (us : List Token) (d : DeclarationLine) : Type 0 where
  pub modifiers : AreModifiersOf d ms
  pub behind : Behind words d us

pub read_as : (words : ContextualWords) (ts us : List Token) (ms : List Modifier) (d : DeclarationLine) → read_modifiers ts ≡ (ms, us) → IsDeclarationLine words ts d
    → ReadsAs words ms us d
read_as words ts us ms d e (all, are, p) =
    let r = line_read words d all ts p in
    let same : ◌≡◌ {A = List Modifier × List Token} (all, r.us) (ms, us) = sym r.reads ∙ e in
    record {
      modifiers = subst (AreModifiersOf d) (ap (λ (q : List Modifier × List Token). q.0) same) are;
      behind = subst (Behind words d) (ap (λ (q : List Modifier × List Token). q.1) same) r.behind;
    }

pub line_found : (words : ContextualWords) (ts us : List Token) (ms : List Modifier) (d : DeclarationLine) → read_modifiers ts ≡ (ms, us) → AreModifiersOf d ms → Behind words d us
    → IsDeclarationLine words ts d
line_found words ts us ms d e are p = (ms, are, are_found (Behind words d) ms ts us e p)

-- THE PLACE BEHIND THE MODIFIERS

words_split : (us : List Token) (ws : List Keyword) (P : List Token → Type 0) → ((ts : List Token) → P ts → (f : List Token) × (ts ≡ f ++ us))
    → (ts : List Token) → Words ws P ts → (f : List Token) × (ts ≡ f ++ us)
words_split us [] P next ts p = next ts p
words_split us (w ∷ ws) P next ts (vs, is, p) =
    let r = words_split us ws P next vs p in (reserved w ∷ r.0, is ∙ ap (λ xs. reserved w ∷ xs) r.1)

modified_split : (us : List Token) (ms : List Modifier) (ts : List Token) → Modified ms (λ vs. vs ≡ us) ts → (f : List Token) × (ts ≡ f ++ us)
modified_split us [] ts p = ([], p)
modified_split us (m ∷ ms) ts p = words_split us (modifier_words m) (Modified ms (λ vs. vs ≡ us)) (modified_split us ms) ts p.1

pub record Place (ts us : List Token) : Type 0 where
  pub within : length us ≤ length ts
  pub there : drop (length ts - length us) ts ≡ us

pub place_behind : (ts us : List Token) (ms : List Modifier) → read_modifiers ts ≡ (ms, us) → Place ts us
place_behind ts us ms e =
    let f = modified_split us ms ts (are_found (λ vs. vs ≡ us) ms ts us e refl) in
    let size : length ts ≡ length f.0 + length us = ap length f.1 ∙ length-append f.0 us in
    let far : length ts - length us ≡ length f.0 = omega arith in
    record {
      within = omega arith;
      there = ap (λ k. drop k ts) far ∙ ap (λ vs. drop (length f.0) vs) f.1 ∙ drop-append_seam f.0 us;
    }
