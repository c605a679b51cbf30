-- How far a file was read: private definitions, for the clauses of the code's own functions.
use Rattle.std.specs.Prelude.{◌≡◌, ℕ, ◌≤◌, Bool, true, false, List, ◌++◌, length, Option, Some}
use Rattle.vb_diag.specs.{declared.refusal.Refusal.Refusal, Broken.lesser}
use Rattle.vb_syntax.specs.declared.{tokens.Line.Line, item.{Item.Item, Row.Row}}
use Rattle.vb_parse_expr.specs.{TypeReading.most_tokens, Fronts.line_rule}
use Rattle.vb_rows.specs.{declared.{files.FileRows.FileRows, lines.LineReader.LineReader}, Rows.{items_behind, AreLineRows}, Reading.HasRead, Files.{line_depths, is_of_grammar}}

-- the refusal tells the line in this file
abbrev pub TellsLine : ℕ → Line → Refusal → Type 0
TellsLine file line r = (r.file ≡ file) × (r.line ≡ line.number) × (r.rule ≡ line_rule line.tokens)

-- A line of the grammar changes nothing; of another the lesser refusal is kept.
abbrev pub IsRefused : ℕ → Bool → Line → Option Refusal → Option Refusal → Type 0
IsRefused file true line known result = result ≡ known
IsRefused file false line known result = (next : Refusal) × TellsLine file line next × (result ≡ lesser known (Some next))

-- The line is read, behind what was read of the file.
pub record IsLineRead (file : ℕ) (earlier now : LineReader) (first : Bool) (line : Line) (known grown : FileRows) : Type 0 where
  pub here : List Row
  pub rows : grown.rows ≡ known.rows ++ here
  pub words : now.words ≡ earlier.words
  pub are : (items : List (Option Item)) → HasRead earlier items → AreLineRows earlier.words items line here
  pub read : (items : List (Option Item)) → HasRead earlier items → HasRead now (items_behind items here)
  pub depths : grown.depths ≡ known.depths ++ line_depths line
  pub few : length line.tokens ≤ most_tokens
  pub refusal : IsRefused file (is_of_grammar first line here) line known.refusal grown.refusal
