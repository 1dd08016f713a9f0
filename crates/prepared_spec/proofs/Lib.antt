pub mod LittlePlan
