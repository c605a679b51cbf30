-- A file is one text, which falls into pieces in one way and has one list of logical lines.
use Rattle.std.proofs.Common.{◌≡◌, ℕ, Bool, true, false, List, [], ◌∷◌, ◌++◌, Option, length, drop, refl, sym, ap, ap₂, ◌∙◌, subst, inl, inr, arith, take-append-drop, append_assoc, append-nil}
use Rattle.bstr.specs.Utf8.{decoded}
use Rattle.vb_diag.specs.{declared.refusal.Refusal.Refusal, Broken.{IsLeast, InFile}}
use Rattle.vb_diag.proofs.Least.{rules_ordered, one_least}
use Rattle.vb_text.specs.{Names.{folding, IsNameOf, AreApart, Extends}, declared.names.Name.Name}
use Rattle.vb_text.proofs.Growth.{kept_name}
use Rattle.vb_syntax.specs.declared.tokens.{Token.Token, Line.Line}
use Rattle.vb_syntax.specs.declared.tokens.Token.TheVariants as token
use Rattle.vb_lexer.specs.{declared.piece.{Piece.Piece, Before.Before}, Characters.{Character, Decodes, IsText, without_mark, is_ascii}, Pieces.{Part, Falls, piece_at, behind, spelled, file_front}, Lines.{Item, IsToken, AreTokens, IsLine, AreLines, IsBroken, Lexed, Breaks, groups_of, with_parts, LexedFrom}}
use Rattle.vb_lexer.specs.declared.piece.Piece.TheVariants as piece

-- TEXTS

decodes_unique : (bytes : List ℕ) (cs ds : List Character) → Decodes bytes cs → Decodes bytes ds → cs ≡ ds
decodes_unique bytes [] [] h k = refl
decodes_unique bytes [] (d ∷ ds) h k = absurd (omega (arith, ap (λ bs. length bs) h, k.0))
decodes_unique bytes (c ∷ cs) [] h k = absurd (omega (arith, ap (λ bs. length bs) k, h.0))
decodes_unique bytes (c ∷ cs) (d ∷ ds) h k = ap₂ (λ x xs. x ∷ xs) (sym h.1 ∙ k.1) (decodes_unique (drop (decoded bytes).size bytes) cs ds h.2 k.2)

-- bytes are one text at most
pub text_unique : (bytes : List ℕ) (text other : List Character) → IsText bytes text → IsText bytes other → text ≡ other
text_unique bytes text other h k = h.2 ∙ ap without_mark (decodes_unique bytes h.0 k.0 h.1 k.1) ∙ sym k.2

-- PIECES

-- a text falls into pieces in one way
pub falls_unique : (b : Before) (text : List Character) (ps qs : List Part) → Falls b text ps → Falls b text qs → ps ≡ qs
falls_unique b text [] [] h k = refl
falls_unique b text [] (q ∷ qs) h k = absurd (omega (arith, ap (λ cs. length cs) h, k.0))
falls_unique b text (p ∷ ps) [] h k = absurd (omega (arith, ap (λ cs. length cs) k, h.0))
falls_unique b text (p ∷ ps) (q ∷ qs) h k =
    let same : p.piece ≡ q.piece = h.1 ∙ sym k.1 in
    let first : p ≡ q = ap₂ (λ x cs. record { piece = x; characters = cs }) same (h.2 ∙ sym k.2) in
    ap₂ (λ x xs. x ∷ xs) first
    (falls_unique (behind b p.piece) (drop (piece_at b text).length text) ps qs h.3
    (subst (λ x. Falls (behind b x) (drop (piece_at b text).length text) qs) (sym same) k.3))

spells : (b : Before) (text : List Character) (parts : List Part) → Falls b text parts → spelled parts ≡ text
spells b text [] h = sym h
spells b text (p ∷ ps) h =
    let n = (piece_at b text).length in
    ap₂ (λ cs ds. cs ++ ds) h.2 (spells (behind b p.piece) (drop n text) ps h.3) ∙ take-append-drop n text

-- the pieces of a text spell it
pub spells_text : (text : List Character) (parts : List Part) → Falls file_front text parts → spelled parts ≡ text
spells_text text parts h = spells file_front text parts h

-- TOKENS

name_unique : (table : List (List ℕ)) (text : List ℕ) (n m : Name) → AreApart table → IsNameOf table text n → IsNameOf table text m → n ≡ m
name_unique table text n m apart h k = ap (λ i. record { index = i }) (apart n.index m.index (folding text) h k)

-- the kind of a piece that is a token, by whether its characters are of ASCII
abbrev kind : Piece → Bool → ℕ
kind piece.Name true = 0
kind piece.Name false = 1
kind piece.EscapedName ascii = 1
kind (piece.Keyword k) ascii = 2
kind (piece.Integer l) ascii = 3
kind piece.Text ascii = 4
kind (piece.Char u) ascii = 5
kind (piece.Symbol s) ascii = 6
kind _ ascii = 7

abbrev token_kind : Token → ℕ
token_kind (token.Name n) = 0
token_kind (token.EscapedName n) = 1
token_kind (token.Keyword k) = 2
token_kind (token.Integer l) = 3
token_kind (token.Text units) = 4
token_kind (token.Char u) = 5
token_kind (token.Symbol s) = 6

one_kind : (table : List (List ℕ)) (p : Part) (t : Token) → IsToken table p t → kind p.piece (is_ascii p.characters) ≡ token_kind t
one_kind table p (token.Name n) h = ap₂ kind h.0 h.1
one_kind table p (token.EscapedName n) (inl h) = ap (λ q. kind q (is_ascii p.characters)) h.0
one_kind table p (token.EscapedName n) (inr h) = ap₂ kind h.0 h.1
one_kind table p (token.Keyword k) h = ap (λ q. kind q (is_ascii p.characters)) h
one_kind table p (token.Integer l) h = ap (λ q. kind q (is_ascii p.characters)) h
one_kind table p (token.Text units) h = ap (λ q. kind q (is_ascii p.characters)) h.0
one_kind table p (token.Char u) h = ap (λ q. kind q (is_ascii p.characters)) h
one_kind table p (token.Symbol s) h = ap (λ q. kind q (is_ascii p.characters)) h

kinds_apart : (table : List (List ℕ)) (p : Part) (t u : Token) → (token_kind t ≡ token_kind u → ⊥) → IsToken table p t → IsToken table p u → t ≡ u
kinds_apart table p t u other h k = absurd (other (sym (one_kind table p t h) ∙ one_kind table p u k))

brackets_alone : (p : Part) → p.piece ≡ piece.EscapedName → p.piece ≡ piece.Name → ⊥
brackets_alone p e f = let same : piece.EscapedName ≡ piece.Name = sym e ∙ f in cc

escaped_unique : (table : List (List ℕ)) (p : Part) (n m : Name) → AreApart table → IsToken table p (token.EscapedName n) → IsToken table p (token.EscapedName m) → n ≡ m
escaped_unique table p n m apart (inl h) (inl k) = name_unique table _ n m apart h.1 k.1
escaped_unique table p n m apart (inr h) (inr k) = name_unique table _ n m apart h.2 k.2
escaped_unique table p n m apart (inl h) (inr k) = absurd (brackets_alone p h.0 k.0)
escaped_unique table p n m apart (inr h) (inl k) = absurd (brackets_alone p k.0 h.0)

token_unique : (table : List (List ℕ)) (p : Part) (t u : Token) → AreApart table → IsToken table p t → IsToken table p u → t ≡ u
token_unique table p (token.Name n) (token.Name m) apart h k = ap (λ x. token.Name x) (name_unique table _ n m apart h.2 k.2)
token_unique table p (token.EscapedName n) (token.EscapedName m) apart h k = ap (λ x. token.EscapedName x) (escaped_unique table p n m apart h k)
token_unique table p (token.Keyword w) (token.Keyword v) apart h k = cc (h, k)
token_unique table p (token.Integer w) (token.Integer v) apart h k = cc (h, k)
token_unique table p (token.Text w) (token.Text v) apart h k = ap (λ x. token.Text x) (h.1 ∙ sym k.1)
token_unique table p (token.Char w) (token.Char v) apart h k = cc (h, k)
token_unique table p (token.Symbol w) (token.Symbol v) apart h k = cc (h, k)
token_unique table p t u apart h k = kinds_apart table p t u (λ e. omega (arith, e)) h k

tokens_unique : (table : List (List ℕ)) (is : List Item) (ts us : List Token) → AreApart table → AreTokens table is ts → AreTokens table is us → ts ≡ us
tokens_unique table [] [] [] apart h k = refl
tokens_unique table [] [] (u ∷ us) apart h k = absurd k
tokens_unique table [] (t ∷ ts) us apart h k = absurd h
tokens_unique table (i ∷ is) [] us apart h k = absurd h
tokens_unique table (i ∷ is) (t ∷ ts) [] apart h k = absurd k
tokens_unique table (i ∷ is) (t ∷ ts) (u ∷ us) apart h k = ap₂ (λ x xs. x ∷ xs) (token_unique table i.part t u apart h.0 k.0) (tokens_unique table is ts us apart h.1 k.1)

-- LINES

line_unique : (table : List (List ℕ)) (file : ℕ) (group : List Item) (l m : Line) → AreApart table → IsLine table file group l → IsLine table file group m → l ≡ m
line_unique table file group l m apart h k =
    ap (λ x. record { file = x; number = l.number; tokens = l.tokens }) (h.0 ∙ sym k.0)
    ∙ ap (λ x. record { file = m.file; number = x; tokens = l.tokens }) (h.1 ∙ sym k.1)
    ∙ ap (λ x. record { file = m.file; number = m.number; tokens = x }) (tokens_unique table group l.tokens m.tokens apart h.2 k.2)

lines_unique : (table : List (List ℕ)) (file : ℕ) (groups : List (List Item)) (ls ms : List Line) → AreApart table → AreLines table file groups ls → AreLines table file groups ms → ls ≡ ms
lines_unique table file [] [] [] apart h k = refl
lines_unique table file [] [] (m ∷ ms) apart h k = absurd k
lines_unique table file [] (l ∷ ls) ms apart h k = absurd h
lines_unique table file (g ∷ gs) [] ms apart h k = absurd h
lines_unique table file (g ∷ gs) (l ∷ ls) [] apart h k = absurd k
lines_unique table file (g ∷ gs) (l ∷ ls) (m ∷ ms) apart h k = ap₂ (λ x xs. x ∷ xs) (line_unique table file g l m apart h.0 k.0) (lines_unique table file gs ls ms apart h.1 k.1)

-- FILES

-- the pieces of a file are one list
parts_unique : (bytes : List ℕ) (text other : List Character) (ps qs : List Part) → IsText bytes text → IsText bytes other → Falls file_front text ps → Falls file_front other qs → ps ≡ qs
parts_unique bytes text other ps qs d e h k =
    falls_unique file_front text ps qs h (subst (λ t. Falls file_front t qs) (text_unique bytes other text e d) k)

-- bytes have one list of lines with the names of a table
pub reading_unique : (table : List (List ℕ)) (file : ℕ) (bytes : List ℕ) (lines others : List Line) → AreApart table → Lexed table file bytes lines → Lexed table file bytes others → lines ≡ others
reading_unique table file bytes lines others apart l m =
    lines_unique table file (groups_of l.parts) lines others apart l.lines_are
    (subst (λ ps. AreLines table file (groups_of ps) others) (parts_unique bytes m.text l.text m.parts l.parts m.decoded l.decoded m.falls l.falls) m.lines_are)

-- the names of a file are added to a table in one way
pub table_unique : (earlier table other : List (List ℕ)) (file other_file : ℕ) (bytes : List ℕ) (lines others : List Line) → LexedFrom earlier table file bytes lines → LexedFrom earlier other other_file bytes others → table ≡ other
table_unique earlier table other file other_file bytes lines others l m =
    l.names ∙ ap (λ ps. with_parts earlier ps) (parts_unique bytes l.lexed.text m.lexed.text l.lexed.parts m.lexed.parts l.lexed.decoded m.lexed.decoded l.lexed.falls m.lexed.falls) ∙ sym m.names

-- a rule that a file breaks is broken by its pieces
pub broken_in : (bytes : List ℕ) (text : List Character) (parts : List Part) (line rule : ℕ) → IsText bytes text → Falls file_front text parts → Breaks bytes line rule → IsBroken parts line rule
broken_in bytes text parts line rule is_text falls b =
    subst (λ ps. IsBroken ps line rule) (parts_unique bytes b.text text b.parts parts b.decoded is_text b.falls falls) b.broken

-- a file that has lines breaks no rule
pub never_both : (table : List (List ℕ)) (file : ℕ) (bytes : List ℕ) (lines : List Line) (line rule : ℕ) → Lexed table file bytes lines → Breaks bytes line rule → ⊥
never_both table file bytes lines line rule l b =
    l.sound line rule (broken_in bytes l.text l.parts line rule l.decoded l.falls b)

-- a file has one least refusal, or none
pub refusal_unique : (file : ℕ) (bytes : List ℕ) (first other : Option Refusal) → IsLeast (InFile file (Breaks bytes)) first → IsLeast (InFile file (Breaks bytes)) other → first ≡ other
refusal_unique file bytes first other h k = one_least rules_ordered (InFile file (Breaks bytes)) first other h k

-- TABLES THAT GROW

pub extends_self : (a : List (List ℕ)) → Extends a a
extends_self a = ([], sym (append-nil a))

pub extends_trans : (a b c : List (List ℕ)) → Extends a b → Extends b c → Extends a c
extends_trans a b c h k = (k.0 ++ h.0, h.1 ∙ ap (λ t. t ++ h.0) k.1 ∙ append_assoc c k.0 h.0)

-- a token stays a piece's token when the table grows
pub token_stays : (table later : List (List ℕ)) (p : Part) (t : Token) → Extends later table → IsToken table p t → IsToken later p t
token_stays table later p (token.Name n) grown h = (h.0, h.1, kept_name table later _ n h.2 grown)
token_stays table later p (token.EscapedName n) grown (inl h) = inl (h.0, kept_name table later _ n h.1 grown)
token_stays table later p (token.EscapedName n) grown (inr h) = inr (h.0, h.1, kept_name table later _ n h.2 grown)
token_stays table later p (token.Keyword k) grown h = h
token_stays table later p (token.Integer l) grown h = h
token_stays table later p (token.Text units) grown h = h
token_stays table later p (token.Char u) grown h = h
token_stays table later p (token.Symbol s) grown h = h

tokens_stay : (table later : List (List ℕ)) (is : List Item) (ts : List Token) → Extends later table → AreTokens table is ts → AreTokens later is ts
tokens_stay table later [] [] grown h = tt
tokens_stay table later [] (t ∷ ts) grown h = absurd h
tokens_stay table later (i ∷ is) [] grown h = absurd h
tokens_stay table later (i ∷ is) (t ∷ ts) grown h = (token_stays table later i.part t grown h.0, tokens_stay table later is ts grown h.1)

lines_kept : (table later : List (List ℕ)) (file : ℕ) (groups : List (List Item)) (ls : List Line) → Extends later table → AreLines table file groups ls → AreLines later file groups ls
lines_kept table later file [] [] grown h = tt
lines_kept table later file [] (l ∷ ls) grown h = absurd h
lines_kept table later file (g ∷ gs) [] grown h = absurd h
lines_kept table later file (g ∷ gs) (l ∷ ls) grown h =
    ((h.0.0, h.0.1, tokens_stay table later g l.tokens grown h.0.2), lines_kept table later file gs ls grown h.1)

-- the lines of a file stay its lines when the table grows
pub reading_stays : (table later : List (List ℕ)) (file : ℕ) (bytes : List ℕ) (lines : List Line) → Lexed table file bytes lines → Extends later table → Lexed later file bytes lines
reading_stays table later file bytes lines l grown =
    record { text = l.text; decoded = l.decoded; parts = l.parts; falls = l.falls; sound = l.sound; lines_are = lines_kept table later file (groups_of l.parts) lines grown l.lines_are }
