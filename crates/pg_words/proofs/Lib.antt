pub mod BuiltLaws
pub mod CommandLaws
pub mod PlanLaws
