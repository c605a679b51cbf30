-- The rules that a text of the language may break: the number of each, and the text that is printed of it.
use Rattle.std.specs.Prelude.{ℕ, ◌+◌, ◌/◌, ◌%◌, ◌==◌, IsSome, if◌then◌else◌, List, [], ◌∷◌, ◌++◌, Option, Some, None, unwrap_or, codes}
use Rattle.std.specs.Fmt.{decimal}

-- characters and tokens
abbrev pub lexical_rules : List (ℕ × List ℕ)
lexical_rules =
    (1, codes "the file isn't UTF-8") ∷
    (2, codes "a character belongs to no token") ∷
    (3, codes "a string or character literal is malformed") ∷
    (4, codes "a number literal is malformed or doesn't fit") ∷
    (5, codes "an underscore is no continuation and no part of a name") ∷
    (6, codes "a bracketed name is malformed") ∷
    (7, codes "a logical line has more than 4096 tokens") ∷
    (8, codes "a line with # is no region line") ∷
    (9, codes "a region isn't closed or wasn't opened") ∷
    (10, codes "a name is longer than 1023 characters") ∷ []

-- what stands on a line
abbrev pub lines_rules : List (ℕ × List ℕ)
lines_rules =
    (30, codes "the line isn't of the grammar") ∷
    (31, codes "a block has no end, or an end has no block") ∷
    (32, codes "the form is outside the profile") ∷
    (33, codes "nesting is deeper than 100") ∷
    (34, codes "the line can't stand here") ∷
    (35, codes "the option setting isn't supported") ∷
    (36, codes "modifiers are repeated or exclude each other") ∷ []

-- what is declared
abbrev pub declarations_rules : List (ℕ × List ℕ)
declarations_rules =
    (80, codes "the name is declared twice") ∷
    (94, codes "there are more than 65535 members") ∷
    (95, codes "the import isn't known") ∷
    (100, codes "there is no procedure Main, or more than one") ∷ []

-- types and their members
abbrev pub types_rules : List (ℕ × List ℕ)
types_rules =
    (110, codes "the type isn't known") ∷
    (111, codes "the type can't be inherited or implemented") ∷
    (112, codes "inheritance goes in a circle") ∷
    (113, codes "the override doesn't fit") ∷
    (114, codes "an interface member isn't implemented, or is so twice") ∷
    (115, codes "a member that must be overridden isn't") ∷
    (116, codes "two overloads have the same parameters") ∷
    (117, codes "an accessor is missing or doesn't fit") ∷
    (118, codes "a module can't be used as a type") ∷
    (119, codes "type arguments don't fit") ∷
    (120, codes "the iterator's result or parameters don't fit") ∷ []

-- bodies: names, members, conversions and constants
abbrev pub expressions_rules : List (ℕ × List ℕ)
expressions_rules =
    (121, codes "the constant isn't constant") ∷
    (140, codes "the name isn't declared") ∷
    (141, codes "the member isn't accessible") ∷
    (142, codes "the expression is of the wrong sort") ∷
    (143, codes "there is no conversion") ∷
    (144, codes "the operator isn't defined for these types") ∷
    (145, codes "the constant doesn't fit") ∷
    (146, codes "an implicit conversion narrows") ∷
    (147, codes "the constant expression would throw") ∷
    (148, codes "there is no instance here") ∷
    (149, codes "the target can't be assigned") ∷ []

-- bodies: calls, events, delegates and loops over a value
abbrev pub calls_rules : List (ℕ × List ℕ)
calls_rules =
    (150, codes "no procedure takes these arguments") ∷
    (152, codes "the call is ambiguous") ∷
    (153, codes "the type can't be made with New") ∷
    (154, codes "an event can't be used so") ∷
    (155, codes "an event is raised outside its type") ∷
    (156, codes "the procedure doesn't fit the delegate") ∷
    (157, codes "the value can't be enumerated") ∷
    (158, codes "the operand's type doesn't fit the statement") ∷ []

-- bodies: branches, what stands where, and how many there may be
abbrev pub branches_rules : List (ℕ × List ℕ)
branches_rules =
    (160, codes "the label isn't there or is there twice") ∷
    (161, codes "a branch enters a block") ∷
    (162, codes "there is no enclosing block to leave or continue") ∷
    (163, codes "a branch leaves a Finally block") ∷
    (164, codes "Yield can't stand here") ∷
    (165, codes "On Error can't stand beside this statement") ∷
    (166, codes "the Return doesn't fit the procedure") ∷
    (167, codes "Throw without a value stands outside a Catch") ∷
    (169, codes "a constructor call is missing or misplaced") ∷
    (170, codes "more than 4096 closed generic types and procedures") ∷
    (171, codes "a procedure has more than 4096 locals") ∷
    (172, codes "Static can't stand in a generic procedure or an iterator") ∷
    (173, codes "a local hides another local") ∷
    (174, codes "a procedure has more than 65535 statements") ∷ []

-- a form of the language that the compiler doesn't take yet
abbrev pub unbuilt_rules : List (ℕ × List ℕ)
unbuilt_rules =
    (999, codes "the form isn't built yet") ∷ []

-- all rules
abbrev pub rules : List (ℕ × List ℕ)
rules = lexical_rules ++ lines_rules ++ declarations_rules ++ types_rules ++ expressions_rules ++ calls_rules ++ branches_rules ++ unbuilt_rules

-- the text beside a number in a list
abbrev pub text_in : List (ℕ × List ℕ) → ℕ → Option (List ℕ)
text_in [] number = None
text_in (row ∷ rows) number = if number == row.0 then Some row.1 else text_in rows number

-- the text of a rule
abbrev pub text_of_rule : ℕ → Option (List ℕ)
text_of_rule number = text_in rules number

-- there is a rule of this number
abbrev pub IsRule : ℕ → Type 0
IsRule number = IsSome (text_of_rule number)

-- a number in three digits, with zeros in front; no rule's number has more
abbrev pub three_digits : ℕ → List ℕ
three_digits number = (48 + number / 100 % 10) ∷ (48 + number / 10 % 10) ∷ (48 + number % 10) ∷ []

-- FILE(LINE): error VNNN: TEXT and the line's end
abbrev pub refusal_text : List ℕ → ℕ → ℕ → List ℕ
refusal_text file line number =
    file ++ codes "(" ++ decimal line ++ codes "): error V" ++ three_digits number ++ codes ": " ++ unwrap_or (text_of_rule number) [] ++ codes "\n"
