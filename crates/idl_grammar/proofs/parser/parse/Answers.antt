use Rattle.std.proofs.Common.{◌∙◌, sym, ap}
use Rattle.idl_grammar.specs.Terminals.{lexemes_of}
use Rattle.idl_grammar.specs.Grammar.{file}
use Rattle.idl_grammar.specs.Read.{read}
use Rattle.idl_grammar.specs.Gives.{whole}
use Rattle.idl_grammar.proofs.Answered.{only-tree}
use Rattle.idl_grammar.proofs.Predictive.{file-predictive}
use Rattle.idl_grammar.proofs.Parsed.{opened, syntax-stops, fault-left, fault-none, fault-place, fault-line, lawful-tree}
use Rattle.idl_grammar.proofs.Counts.{item-count}
use Rattle.idl_grammar.proofs.parser.parse.Goals as goal

pub fault_at-requires-clause-within : goal.fault_at-requires-clause-within
fault_at-requires-clause-within c =
    let same = opened _ c.args.tokens.now.source _ c.args.tokens.now.list c.new-cursor.result c.as_slice.ensures c.as_slice-2.ensures c.new-cursor.ensures in
    fault-left c.args.tokens.now.source c.args.tokens.now.list c.whole_file.new.cursor
    (sym (ap (λ ts. whole (read file ts)) same) ∙ c.in-Err-Syntax.ensures (syntax-stops _ c.in-Err-Syntax.field-0-is))

pub returns-in-Ok-clause-tree : goal.returns-in-Ok-clause-tree
returns-in-Ok-clause-tree c =
    let same = opened _ c.args.tokens.now.source _ c.args.tokens.now.list c.new-cursor.result c.as_slice.ensures c.as_slice-2.ensures c.new-cursor.ensures in
    only-tree file file-predictive (lexemes_of c.args.tokens.now.source c.args.tokens.now.list) c.in-Ok.file c.whole_file.new.cursor
    (sym (ap (λ ts. whole (read file ts)) same) ∙ c.in-Ok.ensures)

pub returns-in-Ok-clause-few : goal.returns-in-Ok-clause-few
returns-in-Ok-clause-few c =
    let same = opened _ c.args.tokens.now.source _ c.args.tokens.now.list c.new-cursor.result c.as_slice.ensures c.as_slice-2.ensures c.new-cursor.ensures in
    let only = only-tree file file-predictive (lexemes_of c.args.tokens.now.source c.args.tokens.now.list) c.in-Ok.file c.whole_file.new.cursor
    (sym (ap (λ ts. whole (read file ts)) same) ∙ c.in-Ok.ensures) in
    item-count c.args.tokens.now.source c.args.tokens.now.list c.in-Ok.file only.reads

pub returns-in-Ok-clause-lawful : goal.returns-in-Ok-clause-lawful
returns-in-Ok-clause-lawful c =
    let same = opened _ c.args.tokens.now.source _ c.args.tokens.now.list c.new-cursor.result c.as_slice.ensures c.as_slice-2.ensures c.new-cursor.ensures in
    let only = only-tree file file-predictive (lexemes_of c.args.tokens.now.source c.args.tokens.now.list) c.in-Ok.file c.whole_file.new.cursor
    (sym (ap (λ ts. whole (read file ts)) same) ∙ c.in-Ok.ensures) in
    lawful-tree c.args.tokens.now.source c.args.tokens.now.list c.in-Ok.file c.requires only

pub returns-in-Err-Syntax-clause-none : goal.returns-in-Err-Syntax-clause-none
returns-in-Err-Syntax-clause-none c =
    let same = opened _ c.args.tokens.now.source _ c.args.tokens.now.list c.new-cursor.result c.as_slice.ensures c.as_slice-2.ensures c.new-cursor.ensures in
    fault-none c.args.tokens.now.source c.args.tokens.now.list c.whole_file.new.cursor c.fault_at.result c.fault_at.ensures
    (sym (ap (λ ts. whole (read file ts)) same) ∙ c.in-Err-Syntax.ensures (syntax-stops _ c.in-Err-Syntax.field-0-is))

pub returns-in-Err-Syntax-clause-place : goal.returns-in-Err-Syntax-clause-place
returns-in-Err-Syntax-clause-place c =
    let same = opened _ c.args.tokens.now.source _ c.args.tokens.now.list c.new-cursor.result c.as_slice.ensures c.as_slice-2.ensures c.new-cursor.ensures in
    fault-place c.args.tokens.now.source c.args.tokens.now.list c.whole_file.new.cursor c.fault_at.result c.fault_at.ensures
    (sym (ap (λ ts. whole (read file ts)) same) ∙ c.in-Err-Syntax.ensures (syntax-stops _ c.in-Err-Syntax.field-0-is))

pub returns-in-Err-Syntax-clause-line : goal.returns-in-Err-Syntax-clause-line
returns-in-Err-Syntax-clause-line c =
    let same = opened _ c.args.tokens.now.source _ c.args.tokens.now.list c.new-cursor.result c.as_slice.ensures c.as_slice-2.ensures c.new-cursor.ensures in
    fault-line c.args.tokens.now.source c.args.tokens.now.list c.whole_file.new.cursor c.fault_at.result c.fault_at.ensures
    (sym (ap (λ ts. whole (read file ts)) same) ∙ c.in-Err-Syntax.ensures (syntax-stops _ c.in-Err-Syntax.field-0-is))
