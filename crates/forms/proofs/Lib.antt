-- Laws that callers use: FormLaws, Kept on numbers that the code keeps as bits, and Results on those of 64 bits. The rest of Results is for the functions' own proofs.
pub mod Kept
pub mod Results
pub mod FormLaws
