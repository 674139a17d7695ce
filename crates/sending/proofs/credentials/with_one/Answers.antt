use Rattle.sending.specs.laws.SentLaws.{empty-few, one-shown, one-new}
use Rattle.sending.proofs.credentials.with_one.Goals as goal

pub returns-then-is_shown : goal.returns-then-is_shown
returns-then-is_shown c = one-shown _ _ c.is_shown.ensures c.if-is_shown.true c.alone.ensures

pub push-requires : goal.push-requires
push-requires c = empty-few _ c.empty-pool.ensures

pub returns : goal.returns
returns c = one-new _ _ c.is_shown.ensures _ _ _ c.if-is_shown.false c.empty-pool.ensures c.push.ensures.added
