-- What reading a stream answers.
pub mod Input
