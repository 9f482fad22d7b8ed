mod Alone
