pub mod DemandInCode
