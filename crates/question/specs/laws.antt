pub mod Credentials
pub mod CredentialsExact
pub mod Question
pub mod QuestionExact
pub mod Refused
