use mathlib.Core.Logic.{inl, inr}
use Rattle.reader.proofs.ProfileLaws.{rule_default, rule-archive, rule-shop}
use Rattle.reader.proofs.read.rule_of.Goals as goal

pub returns-in-Rule : goal.returns-in-Rule
returns-in-Rule c = elim c.in-Rule.is [
  | inl e ↦ rule_default _ _ _ _ _ e c.rule.ensures
  | inr e ↦ rule-archive _ _ _ _ _ e c.rule.ensures
]

pub returns-in-Shop : goal.returns-in-Shop
returns-in-Shop c = search rule-shop
