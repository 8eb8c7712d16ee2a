-- The laws of digits in a word: read, written, counted, marked and searched.
pub mod Digits
pub mod Written
pub mod Zeros
pub mod Places
pub mod Marks
