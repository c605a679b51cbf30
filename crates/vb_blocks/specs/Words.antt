-- Words of blocks, compared.
use Rattle.std.specs.Prelude.{ℕ, ◌==◌, Bool, false, Option, Some, None}
use Rattle.vb_syntax.specs.declared.item.BlockWord.{BlockWord}
use Rattle.vb_syntax.specs.declared.item.BlockWord.TheVariants as word

-- each word by a number
abbrev pub word_number : BlockWord → ℕ
word_number word.Module = 0
word_number word.Class = 1
word_number word.Interface = 2
word_number word.Sub = 3
word_number word.Function = 4
word_number word.Property = 5
word_number word.Get = 6
word_number word.Set = 7
word_number word.Event = 8
word_number word.AddHandler = 9
word_number word.RemoveHandler = 10
word_number word.RaiseEvent = 11
word_number word.If = 12
word_number word.Select = 13
word_number word.SyncLock = 14
word_number word.Try = 15
word_number word.Using = 16
word_number word.While = 17
word_number word.With = 18

-- the word is there, and it is this one
abbrev pub is_word : BlockWord → Option BlockWord → Bool
is_word w (Some v) = word_number v == word_number w
is_word w None = false
