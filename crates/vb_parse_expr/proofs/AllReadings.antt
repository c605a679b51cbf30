-- Whatever the relation spells is read: by induction on what is spelled.
use Rattle.std.proofs.Common.{ℕ, List}
use Rattle.vb_syntax.specs.declared.{tokens.Token.Token, expression.{Expr.Expr, VariableInitializer.VariableInitializer}}
use Rattle.vb_parse_expr.specs.{declared.pending.Goal.Goal, Expressions.{Edge, Spells, SpellsPrimary, SpellsArguments, SpellsList, SpellsInitializer, SpellsElements, SpellsInitializers}}
use Rattle.vb_parse_expr.proofs.{Firsts.{expression_begins, initializers_begin}, ReadingParts.{ReadsExpression, ReadsPrimary, ReadsArguments, ReadsList, ReadsInitializer, ReadsElements, ReadsInitializers, primary_expression, prefix_expression, binary_expression}, ReadingLists.{one_list, more_list, empty_arguments, some_arguments, expression_initializer, elements_initializer, one_element, more_elements, empty_elements, some_elements}, ReadingPrimaries.{alone_primary, name_primary, address_primary, test_primary, member_primary, type_member_primary, with_member_primary, invocation_primary, creation_primary, creation_with_primary, array_primary, bounded_array_primary, parenthesized_primary, conversion_primary, cast_primary, conditional_primary}}

module _ (goal : Goal) where
  mutual
    pub expression_reads : {h w : ℕ} {ts : List Token} {x : Expr} → Spells h w ts x → ReadsExpression goal h w ts x
    expression_reads (Spells.primary s) = primary_expression (primary_reads s)
    expression_reads (Spells.prefix t op s less) = prefix_expression t op less (expression_reads s)
    expression_reads (Spells.binary t op s strong weak s' less) =
        binary_expression t op strong weak less (expression_reads s) (expression_reads s')

    pub primary_reads : {edge : Edge} {ts : List Token} {x : Expr} → SpellsPrimary edge ts x → ReadsPrimary goal edge ts x
    primary_reads (SpellsPrimary.alone t is) = alone_primary t is
    primary_reads (SpellsPrimary.parenthesized s) = parenthesized_primary (expression_reads s)
    primary_reads (SpellsPrimary.name t is args) = name_primary t is args
    primary_reads (SpellsPrimary.address s) = address_primary (primary_reads s)
    primary_reads (SpellsPrimary.type_test s a) = test_primary (primary_reads s) a
    primary_reads (SpellsPrimary.member t s takes is args) = member_primary t (primary_reads s) takes is args
    primary_reads (SpellsPrimary.type_member t u is named) = type_member_primary t u is named
    primary_reads (SpellsPrimary.with_member t is) = with_member_primary t is
    primary_reads (SpellsPrimary.invocation s args takes) = invocation_primary (primary_reads s) (arguments_read_on args) takes
    primary_reads (SpellsPrimary.creation a) = creation_primary a
    primary_reads (SpellsPrimary.creation_with a args) = creation_with_primary a (arguments_read_on args)
    primary_reads (SpellsPrimary.array a s) = array_primary a (elements_read s)
    primary_reads (SpellsPrimary.bounded_array a b s) =
        bounded_array_primary a (expression_begins b) (expression_reads b) (elements_read s)
    primary_reads (SpellsPrimary.conversion t is s) = conversion_primary t is (expression_reads s)
    primary_reads (SpellsPrimary.cast t is s a) = cast_primary t is (expression_reads s) a
    primary_reads (SpellsPrimary.conditional x y z) = conditional_primary (expression_reads x) (expression_reads y) (expression_reads z)

    arguments_read_on : {us : List Token} {ys : List Expr} → SpellsArguments us ys → ReadsArguments goal us ys
    arguments_read_on SpellsArguments.no_arguments = empty_arguments
    arguments_read_on (SpellsArguments.arguments l) = some_arguments l (list_reads l)

    list_reads : {ts : List Token} {xs : List Expr} → SpellsList ts xs → ReadsList goal ts xs
    list_reads (SpellsList.one s) = one_list (expression_reads s)
    list_reads (SpellsList.more s l) = more_list (expression_reads s) (list_reads l)

    initializer_reads : {ts : List Token} {i : VariableInitializer} → SpellsInitializer ts i → ReadsInitializer goal ts i
    initializer_reads (SpellsInitializer.expression s) = expression_initializer (expression_reads s)
    initializer_reads (SpellsInitializer.elements l) = elements_initializer (elements_read l)

    pub elements_read : {ts : List Token} {is : List VariableInitializer} → SpellsElements ts is → ReadsElements goal ts is
    elements_read SpellsElements.no_elements = empty_elements
    elements_read (SpellsElements.braces l) = some_elements (initializers_begin l) (initializers_read l)

    initializers_read : {ts : List Token} {is : List VariableInitializer} → SpellsInitializers ts is → ReadsInitializers goal ts is
    initializers_read (SpellsInitializers.one_initializer s) = one_element (initializer_reads s)
    initializers_read (SpellsInitializers.more_initializers s l) = more_elements (initializer_reads s) (initializers_read l)
