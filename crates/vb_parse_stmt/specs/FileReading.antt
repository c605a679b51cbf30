-- What stands behind the first word of options and ends: private functions, which the code equals.
use Rattle.std.specs.Prelude.{◌==◌, if◌then◌else◌, List, [], ◌∷◌, Option, Some, None}
use Rattle.vb_text.specs.declared.names.Name.{Name}
use Rattle.vb_syntax.specs.declared.{keyword.Keyword.Keyword, tokens.Token.Token, item.BlockWord.BlockWord, declaration.{OptionSetting.OptionSetting, OptionSwitch.OptionSwitch}, words.ContextualWords.ContextualWords}
use Rattle.vb_syntax.specs.declared.keyword.Keyword.TheVariants as word
use Rattle.vb_syntax.specs.declared.tokens.Token.TheVariants as token
use Rattle.vb_syntax.specs.declared.item.BlockWord.TheVariants as block
use Rattle.vb_syntax.specs.declared.declaration.OptionSetting.TheVariants as setting
use Rattle.vb_syntax.specs.declared.declaration.OptionSwitch.TheVariants as switch

abbrev pub word_block : Keyword → Option BlockWord
word_block word.Module = Some block.Module
word_block word.Class = Some block.Class
word_block word.Interface = Some block.Interface
word_block word.Sub = Some block.Sub
word_block word.Function = Some block.Function
word_block word.Property = Some block.Property
word_block word.Get = Some block.Get
word_block word.Set = Some block.Set
word_block word.Event = Some block.Event
word_block word.AddHandler = Some block.AddHandler
word_block word.RemoveHandler = Some block.RemoveHandler
word_block word.RaiseEvent = Some block.RaiseEvent
word_block word.If = Some block.If
word_block word.Select = Some block.Select
word_block word.SyncLock = Some block.SyncLock
word_block word.Try = Some block.Try
word_block word.Using = Some block.Using
word_block word.While = Some block.While
word_block word.With = Some block.With
word_block w = None

abbrev pub ended_block : List Token → Option BlockWord
ended_block (first ∷ token.Keyword w ∷ []) = word_block w
ended_block ts = None

-- WHAT AN OPTION SETS

-- what is found among these tokens: nothing exactly where there is none
abbrev pub IsFound : {X : Type 0} → (List Token → X → Type 0) → List Token → Option X → Type 0
IsFound P ts (Some x) = P ts x
IsFound {X} P ts None = (x : X) → P ts x → ⊥

abbrev pub switched : ContextualWords → Name → OptionSwitch → Option OptionSetting
switched words n on =
    if n.index == words.strict.index then Some (setting.Strict on) else
    if n.index == words.explicit.index then Some (setting.Explicit on) else
    if n.index == words.infer.index then Some (setting.Infer on) else None

abbrev pub compared : ContextualWords → Name → Name → Option OptionSetting
compared words n m =
    if n.index == words.compare.index then (
    if m.index == words.binary.index then Some setting.CompareBinary else
    if m.index == words.text.index then Some setting.CompareText else None)
    else None

abbrev pub first_found : Option OptionSetting → Option OptionSetting → Option OptionSetting
first_found (Some s) other = Some s
first_found None other = other

abbrev pub two_names : ContextualWords → Name → Name → Option OptionSetting
two_names words n m = first_found (compared words n m) (if m.index == words.off.index then switched words n switch.Off else None)

abbrev pub option_setting : ContextualWords → List Token → Option OptionSetting
option_setting words (first ∷ token.Name n ∷ []) = switched words n switch.On
option_setting words (first ∷ token.Name n ∷ token.Keyword word.On ∷ []) = switched words n switch.On
option_setting words (first ∷ token.Name n ∷ token.Name m ∷ []) = two_names words n m
option_setting words ts = None
