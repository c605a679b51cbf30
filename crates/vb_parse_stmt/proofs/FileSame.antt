-- A line is one end at most, and lines of the front of a file begin as they do.
use Rattle.std.proofs.Common.{◌≡◌, true, List, refl, ap}
use Rattle.vb_text.specs.declared.names.Name.{Name}
use Rattle.vb_syntax.specs.declared.{tokens.Token.Token, declaration.OptionSetting.OptionSetting, item.BlockWord.BlockWord, words.Context.Context}
use Rattle.vb_syntax.specs.declared.item.BlockWord.TheVariants as block
use Rattle.vb_syntax.specs.declared.item.Item.TheVariants as item
use Rattle.vb_parse_stmt.specs.{Items.{IsOtherItem, block_word}, Reading.{front_of, may_begin}}

pub option_first : (c : Context) (ts : List Token) (s : OptionSetting) → IsOtherItem c ts (item.Option s) → may_begin (front_of c ts) (item.Option s) ≡ true
option_first c ts s (us, split, p) = ap (λ (vs : List Token). may_begin (front_of c vs) (item.Option s)) split

pub imports_first : (c : Context) (ts : List Token) (spaces : List (List Name)) → IsOtherItem c ts (item.Imports spaces) → may_begin (front_of c ts) (item.Imports spaces) ≡ true
imports_first c ts spaces (us, split, p) = ap (λ (vs : List Token). may_begin (front_of c vs) (item.Imports spaces)) split

pub end_first : (c : Context) (ts : List Token) (b : BlockWord) → IsOtherItem c ts (item.End b) → may_begin (front_of c ts) (item.End b) ≡ true
end_first c ts b split = ap (λ (vs : List Token). may_begin (front_of c vs) (item.End b)) split

block_same : (b b' : BlockWord) → block_word b ≡ block_word b' → b ≡ b'
block_same block.Module block.Module e = refl
block_same block.Class block.Class e = refl
block_same block.Interface block.Interface e = refl
block_same block.Sub block.Sub e = refl
block_same block.Function block.Function e = refl
block_same block.Property block.Property e = refl
block_same block.Get block.Get e = refl
block_same block.Set block.Set e = refl
block_same block.Event block.Event e = refl
block_same block.AddHandler block.AddHandler e = refl
block_same block.RemoveHandler block.RemoveHandler e = refl
block_same block.RaiseEvent block.RaiseEvent e = refl
block_same block.If block.If e = refl
block_same block.Select block.Select e = refl
block_same block.SyncLock block.SyncLock e = refl
block_same block.Try block.Try e = refl
block_same block.Using block.Using e = refl
block_same block.While block.While e = refl
block_same block.With block.With e = refl
block_same b b' e = absurd cc

pub end_same : (c : Context) (ts : List Token) (b b' : BlockWord) → IsOtherItem c ts (item.End b) → IsOtherItem c ts (item.End b') → b ≡ b'
end_same c ts b b' p q = let words : block_word b ≡ block_word b' = cc in block_same b b' words
