pub mod VerifyLaws
