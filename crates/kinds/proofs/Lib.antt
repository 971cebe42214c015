pub mod NumberedJoins
