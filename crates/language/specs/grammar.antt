-- The grammar of rule texts (document 01, "Grammar"), form by form. Its rules mention no function of the reader and no definition of what is
-- answered (the files of the same names one level up): they share with these the values, the limits, and how the words of a phrase are parted.
pub mod Words
pub mod Timeval
pub mod Expr
pub mod Trigger
pub mod Condition
pub mod Text
