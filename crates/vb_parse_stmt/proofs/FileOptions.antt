-- What an option line sets.
use Rattle.std.proofs.Common.{◌≡◌, ◌==◌, ℕ, Bool, true, false, if◌then◌else◌, List, [], ◌∷◌, Option, Some, None, refl, ap, subst, ◌∙◌, arith, inl, inr}
use Rattle.std.proofs.lemmas.Bool.{eqb-true}
use Rattle.vb_text.specs.declared.names.Name.{Name}
use Rattle.vb_syntax.specs.declared.keyword.Keyword.TheVariants as word
use Rattle.vb_syntax.specs.declared.{tokens.Token.Token, declaration.{OptionSetting.OptionSetting, OptionSwitch.OptionSwitch}, words.{Context.Context, ContextualWords.ContextualWords}}
use Rattle.vb_syntax.specs.declared.tokens.Token.TheVariants as token
use Rattle.vb_syntax.specs.declared.item.Item.TheVariants as item
use Rattle.vb_syntax.specs.declared.declaration.OptionSetting.TheVariants as setting
use Rattle.vb_syntax.specs.declared.declaration.OptionSwitch.TheVariants as switch
use Rattle.vb_parse_stmt.specs.declared.front.Front.TheVariants as front
use Rattle.vb_parse_decl.specs.Parts.{reserved}
use Rattle.vb_parse_stmt.specs.{Statements.{IsSetting, switch_words}, Items.IsOtherItem, Reading.front_of, FileReading.{switched, compared, option_setting, first_found}}

name_is : (n m : Name) → (n.index == m.index) ≡ true → n ≡ m
name_is n m e = ap (λ (i : ℕ). record { index = i }) (eqb-true n.index m.index e)

by_switch : (words : ContextualWords) (n : Name) (on : OptionSwitch) (s : OptionSetting) (us : List Token) (a b d : Bool)
    → (n.index == words.strict.index) ≡ a → (n.index == words.explicit.index) ≡ b → (n.index == words.infer.index) ≡ d
    → (if a then Some (setting.Strict on) else if b then Some (setting.Explicit on) else if d then Some (setting.Infer on) else None) ≡ Some s
    → switch_words words on us → IsSetting words (token.Name n ∷ us) s
by_switch words n on s us true b d ea eb ed e p =
    let name : n ≡ words.strict = name_is n words.strict ea in
    let is : setting.Strict on ≡ s = cc in
    subst (λ (r : OptionSetting). IsSetting words (token.Name n ∷ us) r) is (us, ap (λ (m : Name). token.Name m ∷ us) name, p)
by_switch words n on s us false true d ea eb ed e p =
    let name : n ≡ words.explicit = name_is n words.explicit eb in
    let is : setting.Explicit on ≡ s = cc in
    subst (λ (r : OptionSetting). IsSetting words (token.Name n ∷ us) r) is (us, ap (λ (m : Name). token.Name m ∷ us) name, p)
by_switch words n on s us false false true ea eb ed e p =
    let name : n ≡ words.infer = name_is n words.infer ed in
    let is : setting.Infer on ≡ s = cc in
    subst (λ (r : OptionSetting). IsSetting words (token.Name n ∷ us) r) is (us, ap (λ (m : Name). token.Name m ∷ us) name, p)
by_switch words n on s us false false false ea eb ed e p = absurd cc

switched_is : (words : ContextualWords) (n : Name) (on : OptionSwitch) (s : OptionSetting) (us : List Token)
    → switched words n on ≡ Some s → switch_words words on us → IsSetting words (token.Name n ∷ us) s
switched_is words n on s us e p = by_switch words n on s us _ _ _ refl refl refl e p

by_comparison : (words : ContextualWords) (n m : Name) (s : OptionSetting) (a b d : Bool)
    → (n.index == words.compare.index) ≡ a → (m.index == words.binary.index) ≡ b → (m.index == words.text.index) ≡ d
    → (if a then (if b then Some setting.CompareBinary else if d then Some setting.CompareText else None) else None) ≡ Some s
    → IsSetting words (token.Name n ∷ token.Name m ∷ []) s
by_comparison words n m s true true d ea eb ed e =
    let name : n ≡ words.compare = name_is n words.compare ea in
    let other : m ≡ words.binary = name_is m words.binary eb in
    let is : setting.CompareBinary ≡ s = cc in
    let same : token.Name n ∷ token.Name m ∷ [] ≡ token.Name words.compare ∷ token.Name words.binary ∷ [] = cc in
    subst (λ (r : OptionSetting). IsSetting words (token.Name n ∷ token.Name m ∷ []) r) is same
by_comparison words n m s true false true ea eb ed e =
    let name : n ≡ words.compare = name_is n words.compare ea in
    let other : m ≡ words.text = name_is m words.text ed in
    let is : setting.CompareText ≡ s = cc in
    let same : token.Name n ∷ token.Name m ∷ [] ≡ token.Name words.compare ∷ token.Name words.text ∷ [] = cc in
    subst (λ (r : OptionSetting). IsSetting words (token.Name n ∷ token.Name m ∷ []) r) is same
by_comparison words n m s true false false ea eb ed e = absurd cc
by_comparison words n m s false b d ea eb ed e = absurd cc

by_off : (words : ContextualWords) (n m : Name) (s : OptionSetting) (a : Bool) → (m.index == words.off.index) ≡ a
    → (if a then switched words n switch.Off else None) ≡ Some s → IsSetting words (token.Name n ∷ token.Name m ∷ []) s
by_off words n m s true ea e =
    switched_is words n switch.Off s (token.Name m ∷ []) e (ap (λ (k : Name). token.Name k ∷ []) (name_is m words.off ea))
by_off words n m s false ea e = absurd cc

by_first : (words : ContextualWords) (n m : Name) (s : OptionSetting) (o : Option OptionSetting) → compared words n m ≡ o
    → first_found o (if m.index == words.off.index then switched words n switch.Off else None) ≡ Some s
    → IsSetting words (token.Name n ∷ token.Name m ∷ []) s
by_first words n m s (Some r) same e = by_comparison words n m s _ _ _ refl refl refl (same ∙ e)
by_first words n m s None same e = by_off words n m s _ refl e

setting_is : (words : ContextualWords) (first : Token) (ts : List Token) (s : OptionSetting) → option_setting words (first ∷ ts) ≡ Some s → IsSetting words ts s
setting_is words first (token.Name n ∷ []) s e = switched_is words n switch.On s [] e (inl refl)
setting_is words first (token.Name n ∷ token.Keyword word.On ∷ []) s e = switched_is words n switch.On s (reserved word.On ∷ []) e (inr refl)
setting_is words first (token.Name n ∷ token.Name m ∷ []) s e = by_first words n m s _ refl e
setting_is words first ts s e = absurd cc

option_word : (t : Token) (ts : List Token) (c : Context) → front_of c (t ∷ ts) ≡ front.Option → t ≡ reserved word.Option
option_word (token.Keyword word.Option) ts c e = refl
option_word (token.Name n) ts c e = named n c e
  where
    named : (n : Name) (c : Context) → front_of c (token.Name n ∷ []) ≡ front.Option → token.Name n ≡ reserved word.Option
    named n c e = grind arith
option_word t ts c e = absurd cc

pub option_item : (c : Context) (ts : List Token) (s : OptionSetting) → front_of c ts ≡ front.Option → option_setting c.words ts ≡ Some s
    → IsOtherItem c ts (item.Option s)
option_item c (t ∷ ts) s f e = (ts, ap (λ (u : Token). u ∷ ts) (option_word t ts c f), setting_is c.words t ts s e)
option_item c [] s f e = absurd cc
