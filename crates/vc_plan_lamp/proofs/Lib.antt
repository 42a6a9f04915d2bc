pub mod LampLaws
