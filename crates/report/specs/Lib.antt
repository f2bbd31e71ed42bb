pub mod PlanText
