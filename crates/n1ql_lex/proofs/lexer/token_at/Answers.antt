use Rattle.std.proofs.Common.{◌≡◌, ◌<◌, length, get_or, sym, ap, ◌∙◌, arith}
use Rattle.std.proofs.lemmas.Result.{IfOk-weaker}
use Rattle.n1ql_lex.specs.declared.opening.Opening.TheVariants as opening
use Rattle.n1ql_lex.specs.Bytes.{opening_of}
use Rattle.n1ql_lex.specs.Lexemes.{IsLexeme, IsLexemeOf}
use Rattle.n1ql_lex.proofs.TokenLemmas.{string-ascii, name-ascii, found-here}
use Rattle.n1ql_lex.proofs.lexer.token_at.Goals as goal

pub string_at-requires-clause-quote : goal.string_at-requires-clause-quote
string_at-requires-clause-quote c =
    let first : c.in-Some.first.now ≡ get_or c.args.text.now 0 0 = c.in-Some.ensures.item.4 (omega arith) 0 ∙ ap (λ bytes. get_or bytes 0 0) c.as_bytes.ensures.value in
    string-ascii (get_or c.args.text.now 0 0) (ap opening_of (sym first) ∙ sym c.in-String.ensures)

pub name_at-requires-clause-quote : goal.name_at-requires-clause-quote
name_at-requires-clause-quote c =
    let first : c.in-Some.first.now ≡ get_or c.args.text.now 0 0 = c.in-Some.ensures.item.4 (omega arith) 0 ∙ ap (λ bytes. get_or bytes 0 0) c.as_bytes.ensures.value in
    name-ascii (get_or c.args.text.now 0 0) (ap opening_of (sym first) ∙ sym c.in-Name.ensures)

pub returns-in-String : goal.returns-in-String
returns-in-String c =
    let text = c.args.text.now in
    let first : c.in-Some.first.now ≡ get_or text 0 0 = c.in-Some.ensures.item.4 (omega arith) 0 ∙ ap (λ bytes. get_or bytes 0 0) c.as_bytes.ensures.value in
    let some : 0 < length text = omega (arith, c.in-Some.ensures.item.3.0, ap length c.as_bytes.ensures.value) in
    IfOk-weaker c.string_at.result (IsLexemeOf opening.String text) (IsLexeme text)
    (λ found h. found-here text opening.String found some (ap opening_of (sym first) ∙ sym c.in-String.ensures) h) c.string_at.ensures

pub returns-in-Name : goal.returns-in-Name
returns-in-Name c =
    let text = c.args.text.now in
    let first : c.in-Some.first.now ≡ get_or text 0 0 = c.in-Some.ensures.item.4 (omega arith) 0 ∙ ap (λ bytes. get_or bytes 0 0) c.as_bytes.ensures.value in
    let some : 0 < length text = omega (arith, c.in-Some.ensures.item.3.0, ap length c.as_bytes.ensures.value) in
    IfOk-weaker c.name_at.result (IsLexemeOf opening.Name text) (IsLexeme text)
    (λ found h. found-here text opening.Name found some (ap opening_of (sym first) ∙ sym c.in-Name.ensures) h) c.name_at.ensures
