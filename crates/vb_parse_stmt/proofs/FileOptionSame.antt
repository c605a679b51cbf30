-- An option line sets one thing at most, where the words of options are apart.
use Rattle.std.proofs.Common.{◌≡◌, inl, inr, List, refl, ap}
use Rattle.vb_syntax.specs.{declared.{tokens.Token.Token, declaration.{OptionSetting.OptionSetting, OptionSwitch.OptionSwitch}, words.{Context.Context, ContextualWords.ContextualWords}}, ContextualWords.OptionsApart}
use Rattle.vb_syntax.specs.declared.declaration.OptionSetting.TheVariants as setting
use Rattle.vb_syntax.specs.declared.declaration.OptionSwitch.TheVariants as switch
use Rattle.vb_syntax.specs.declared.item.Item.TheVariants as item
use Rattle.vb_parse_stmt.specs.{Statements.{IsSetting, switch_words}, Items.IsOtherItem}

switch_same : (words : ContextualWords) (on on' : OptionSwitch) (us vs : List Token) → us ≡ vs → switch_words words on us → switch_words words on' vs → on ≡ on'
switch_same words switch.On switch.On us vs e p q = refl
switch_same words switch.Off switch.Off us vs e p q = refl
switch_same words switch.On switch.Off us vs e (inl p) q = absurd cc
switch_same words switch.On switch.Off us vs e (inr p) q = absurd cc
switch_same words switch.Off switch.On us vs e p (inl q) = absurd cc
switch_same words switch.Off switch.On us vs e p (inr q) = absurd cc

setting_same : (words : ContextualWords) → OptionsApart words → (ts us : List Token) (s s' : OptionSetting) → ts ≡ us → IsSetting words ts s → IsSetting words us s' → s ≡ s'
setting_same words apart ts us (setting.Strict on) (setting.Strict on') e (vs, split, p) (ws, split', q) = ap setting.Strict (switch_same words on on' vs ws (cc) p q)
setting_same words apart ts us (setting.Strict on) (setting.Explicit on') e (vs, split, p) (ws, split', q) = absurd (apart.strict_explicit (cc))
setting_same words apart ts us (setting.Strict on) (setting.Infer on') e (vs, split, p) (ws, split', q) = absurd (apart.strict_infer (cc))
setting_same words apart ts us (setting.Strict on) setting.CompareBinary e (vs, split, p) split' = absurd (apart.strict_compare (cc))
setting_same words apart ts us (setting.Strict on) setting.CompareText e (vs, split, p) split' = absurd (apart.strict_compare (cc))
setting_same words apart ts us (setting.Explicit on) (setting.Strict on') e (vs, split, p) (ws, split', q) = absurd (apart.strict_explicit (cc))
setting_same words apart ts us (setting.Explicit on) (setting.Explicit on') e (vs, split, p) (ws, split', q) = ap setting.Explicit (switch_same words on on' vs ws (cc) p q)
setting_same words apart ts us (setting.Explicit on) (setting.Infer on') e (vs, split, p) (ws, split', q) = absurd (apart.explicit_infer (cc))
setting_same words apart ts us (setting.Explicit on) setting.CompareBinary e (vs, split, p) split' = absurd (apart.explicit_compare (cc))
setting_same words apart ts us (setting.Explicit on) setting.CompareText e (vs, split, p) split' = absurd (apart.explicit_compare (cc))
setting_same words apart ts us (setting.Infer on) (setting.Strict on') e (vs, split, p) (ws, split', q) = absurd (apart.strict_infer (cc))
setting_same words apart ts us (setting.Infer on) (setting.Explicit on') e (vs, split, p) (ws, split', q) = absurd (apart.explicit_infer (cc))
setting_same words apart ts us (setting.Infer on) (setting.Infer on') e (vs, split, p) (ws, split', q) = ap setting.Infer (switch_same words on on' vs ws (cc) p q)
setting_same words apart ts us (setting.Infer on) setting.CompareBinary e (vs, split, p) split' = absurd (apart.infer_compare (cc))
setting_same words apart ts us (setting.Infer on) setting.CompareText e (vs, split, p) split' = absurd (apart.infer_compare (cc))
setting_same words apart ts us setting.CompareBinary (setting.Strict on') e split (ws, split', q) = absurd (apart.strict_compare (cc))
setting_same words apart ts us setting.CompareBinary (setting.Explicit on') e split (ws, split', q) = absurd (apart.explicit_compare (cc))
setting_same words apart ts us setting.CompareBinary (setting.Infer on') e split (ws, split', q) = absurd (apart.infer_compare (cc))
setting_same words apart ts us setting.CompareBinary setting.CompareBinary e split split' = refl
setting_same words apart ts us setting.CompareBinary setting.CompareText e split split' = absurd (apart.binary_text (cc))
setting_same words apart ts us setting.CompareText (setting.Strict on') e split (ws, split', q) = absurd (apart.strict_compare (cc))
setting_same words apart ts us setting.CompareText (setting.Explicit on') e split (ws, split', q) = absurd (apart.explicit_compare (cc))
setting_same words apart ts us setting.CompareText (setting.Infer on') e split (ws, split', q) = absurd (apart.infer_compare (cc))
setting_same words apart ts us setting.CompareText setting.CompareBinary e split split' = absurd (apart.binary_text (cc))
setting_same words apart ts us setting.CompareText setting.CompareText e split split' = refl

pub option_same : (c : Context) (ts : List Token) (s s' : OptionSetting) → OptionsApart c.words → IsOtherItem c ts (item.Option s) → IsOtherItem c ts (item.Option s') → s ≡ s'
option_same c ts s s' apart (us, split, p) (vs, split', q) = setting_same c.words apart us vs s s' (cc) p q
