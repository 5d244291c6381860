pub mod Books
pub mod LineAnswers
