use Rattle.joints.proofs.Laws.{colon-alias, colon-other}
use Rattle.joints.proofs.put_colon.Goals as goal

pub returns-in-Alias : goal.returns-in-Alias
returns-in-Alias c = colon-alias _ _ _ _ _ c.in-Alias.is c.byte-w1.ensures c.byte.ensures

pub returns-in_default : goal.returns-in_default
returns-in_default c = colon-other _ _ _ (λ t e. c.in_default.not-Alias _ e) c.byte-in_default.ensures
