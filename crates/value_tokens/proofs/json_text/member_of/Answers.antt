use Rattle.json.specs.Value.{value_view}
use Rattle.value_tokens.proofs.Compact.{found_readable}
use Rattle.value_tokens.proofs.Kept.{member_read}
use Rattle.value_tokens.proofs.json_text.member_of.Goals as goal

pub returns-clause-readable : goal.returns-clause-readable
returns-clause-readable c = found_readable (λ v. value_view v.now) c.get.result c.args.key.now (value_view c.args.value.now) c.requires c.get.ensures

pub returns-clause-read : goal.returns-clause-read
returns-clause-read c = member_read c.args.key.now (value_view c.args.value.now)
