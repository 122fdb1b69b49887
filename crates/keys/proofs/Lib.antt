pub mod Counting
pub mod HmacSteps
pub mod Lengths
pub mod PremasterParts
pub mod PrfSteps
pub mod Reports
