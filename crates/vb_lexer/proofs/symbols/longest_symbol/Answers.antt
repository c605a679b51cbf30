use Rattle.vb_lexer.proofs.SymbolTables.{symbol_longest}
use Rattle.vb_lexer.proofs.symbols.longest_symbol.Goals as goal

pub returns : goal.returns
returns c = symbol_longest
