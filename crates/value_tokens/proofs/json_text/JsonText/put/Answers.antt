use Rattle.std.proofs.Common.{◌++◌, refl, sym, ap, subst, ◌∙◌}
use Rattle.json.specs.Lex.{tokens}
use Rattle.json.specs.Print.{ArePrintable}
use Rattle.json.specs.Reads.{token_of}
use Rattle.json.proofs.Printed.Trees.{ArePrintable-json_tokens}
use Rattle.value_tokens.proofs.Adding.{sent}
use Rattle.value_tokens.proofs.Compact.{printed_tokens}
use Rattle.value_tokens.proofs.Copies.{first, one_more}
use Rattle.value_tokens.proofs.json_text.JsonText.put.Goals as goal

pub tokens-init : goal.tokens-init
tokens-init c =
    let j = c.args.self.now in
    let all = c.in_ok-reader.ensures.ok ∙ ap tokens c.as_str.ensures.text ∙ printed_tokens j c.as_str.ensures.readable in
    record {
      good = subst ArePrintable (sym all) (ArePrintable-json_tokens j c.as_str.ensures.readable.0);
      same = ap (λ ts. c.args.out.now.tokens ++ ts) all;
      before = refl;
    }

pub token-requires : goal.token-requires
token-requires c = (first (token_of c.in-Some.token) c.tokens.reader c.next.new.self c.in-Some.ensures.value c.tokens.invariant.good).0

pub tokens-preserved : goal.tokens-preserved
tokens-preserved c = one_more c.tokens.invariant (token_of c.in-Some.token) c.token.new.self c.next.new.self c.in-Some.ensures.value (sent c.in_ok-token.ensures)
