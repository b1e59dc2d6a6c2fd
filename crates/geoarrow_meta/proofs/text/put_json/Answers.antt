use Rattle.std.proofs.Common.{◌++◌, refl, sym, ap, subst}
use Rattle.json.specs.Print.{ArePrintable}
use Rattle.json.specs.Reads.{token_of}
use Rattle.value_tokens.proofs.Adding.{sent}
use Rattle.geoarrow_meta.proofs.Printable.{printable}
use Rattle.value_tokens.proofs.Copies.{first, one_more}
use Rattle.geoarrow_meta.proofs.text.put_json.Goals as goal

pub tokens-init : goal.tokens-init
tokens-init c =
    let all = c.in_ok-reader.ensures.ok in
    record {
      good = subst ArePrintable (sym all) (printable c.args.text.now c.requires.0 c.requires.1);
      same = ap (λ ts. c.args.out.now.tokens ++ ts) all;
      before = refl;
    }

pub token-requires : goal.token-requires
token-requires c = (first (token_of c.in-Some.token) c.tokens.reader c.next.new.self c.in-Some.ensures.value c.tokens.invariant.good).0

pub tokens-preserved : goal.tokens-preserved
tokens-preserved c = one_more c.tokens.invariant (token_of c.in-Some.token) c.token.new.self c.next.new.self c.in-Some.ensures.value (sent c.in_ok-token.ensures)
