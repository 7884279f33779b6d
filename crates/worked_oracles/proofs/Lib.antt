pub mod ScannedLines
