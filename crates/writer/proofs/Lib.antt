pub mod MadeLaws
pub mod RuleLaws
pub mod WriteLaws
